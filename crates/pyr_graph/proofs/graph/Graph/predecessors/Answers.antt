-- The row that is kept at the task is that of its edges.
use Rattle.std.proofs.Common.{◌<◌, [], List, length, get_or, arith, ap, ◌∙◌}
use Rattle.std.proofs.lemmas.List.{get_or_read}
use Rattle.pyr_graph.specs.declared.edge.Edge.{Edge}
use Rattle.pyr_graph.proofs.graph.Graph.predecessors.Goals as goal

pub returns : goal.returns
returns c =
    let index = c.self.invariant.1 in
    let inside : c.args.task.0 < length c.self.inside.tasks = rw (← c.self.view_is) at c.requires in
    let read = get_or_read c.as_slice.result.now c.args.task.0 _ (omega (arith, ap (λ (rows : List (List Edge)). length rows) c.as_slice.ensures, index.predecessors_full, inside)) c.index-as_slice-task.is [] in
    let row = c.as_slice-2.ensures ∙ (read ∙ ap (λ (rows : List (List Edge)). get_or rows c.args.task.0 []) c.as_slice.ensures) in
    rw (← c.self.view_is, row) (index.predecessors c.args.task.0 inside)
