use Rattle.std.proofs.Common.{◌≡◌, ◌+◌, false, List, [], ◌∷◌, ◌++◌, length, take, get_or, refl, sym, ap, ◌∙◌, arith}
use Rattle.std.proofs.lemmas.List.{take_more}
use Rattle.pyr_num.specs.declared.name.Name.{Name}
use Rattle.pyr_graph.specs.System.{task_count}
use Rattle.pyr_graphtext.specs.Statements.{is_among, with_name}
use Rattle.pyr_graphtext.proofs.NumberedNames.{not_in_front}
use Rattle.pyr_simul.proofs.reading.task_table.Goals as goal

pub loop-task-preserved : goal.loop-task-preserved
loop-task-preserved c =
    let names = c.args.program.now.task_names in
    let is = c.graph.ensures.program in
    let count : length names ≡ task_count c.graph.result.now = is.task_names ∙ ap task_count (sym c.graph.ensures.graph) in
    let name = get_or names c.loop-task.task [] in
    let new : is_among (take c.loop-task.task names) name ≡ false = not_in_front names is.tasks_differ c.loop-task.task (omega (arith, count)) in
    let more : take (c.loop-task.task + 1) names ≡ take c.loop-task.task names ++ name ∷ [] = take_more names c.loop-task.task [] (omega (arith, count)) in
    let put : with_name (take c.loop-task.task names) name ≡ take c.loop-task.task names ++ name ∷ [] = rw new refl in
    c.in_ok-insert.ensures.names ∙ ap (λ (ns : List Name). with_name ns c.task_name.result) c.loop-task.invariant ∙ ap (with_name (take c.loop-task.task names)) c.task_name.ensures ∙ put ∙ sym more
