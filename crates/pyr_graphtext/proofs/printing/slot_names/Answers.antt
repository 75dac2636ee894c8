use Rattle.pyr_graphtext.proofs.PrintingLemmas.{fit_body, slots_named}
use Rattle.pyr_graphtext.proofs.printing.slot_names.Goals as goal

pub returns-clause-fit : goal.returns-clause-fit
returns-clause-fit c =
    fit_body c.args.program.now c.args.task.0 _ c.graph-graph.ensures.program c.requires
    (slots_named c.args.program.now c.args.task.0 c.graph-graph.result.now c.reads.result.now c.writes.result.now c.in_ok-names_of.field-0 c.in_ok-names_of-2.field-0
    c.graph-graph.ensures.graph c.reads.ensures c.writes.ensures c.in_ok-names_of.ensures c.in_ok-names_of-2.ensures)
