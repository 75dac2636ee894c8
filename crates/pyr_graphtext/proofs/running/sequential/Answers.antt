-- The printed data are among all data, whose values the table holds.
use Rattle.std.proofs.Common.{◌≡◌, ◌∙◌, ap, List}
use Rattle.pyr_num.specs.declared.ids.DatumId.{DatumId}
use Rattle.pyr_graph.specs.System.{System, datum_numbers}
use Rattle.pyr_graphtext.specs.Running.{inputs_from}
use Rattle.pyr_graphtext.proofs.RunningLemmas.{outputs_held, prints_placed, graph_moved}
use Rattle.pyr_graphtext.proofs.running.sequential.Goals as goal

pub copied-requires : goal.copied-requires
copied-requires c =
    let prints : c.prints.result.now ≡ c.args.program.now.graph.prints = c.prints.ensures ∙ ap (λ (g : System). g.prints) c.graph-graph.ensures.graph in
    let graph = graph_moved _ _ c.graph-graph.ensures.graph c.well_formed-2.ensures in
    prints_placed c.args.program.now c.args.frame c.in_ok-table.table c.prints.result.now graph c.in_ok-table.ensures prints

pub returns : goal.returns
returns c =
    let prints : c.prints.result.now ≡ c.args.program.now.graph.prints = c.prints.ensures ∙ ap (λ (g : System). g.prints) c.graph-graph.ensures.graph in
    let graph = graph_moved _ _ c.graph-graph.ensures.graph c.well_formed-2.ensures in
    outputs_held c.args.program.now c.args.frame c.in_ok-table.table c.in_ok-lists.lists graph c.in_ok-table.ensures
    (c.in_ok-lists.ensures ∙ ap (λ (ds : List DatumId). inputs_from c.in_ok-table.table (datum_numbers ds)) prints)
