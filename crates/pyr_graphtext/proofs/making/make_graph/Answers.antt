use Rattle.std.proofs.Common.{List, [], subst, ap, ◌∙◌}
use Rattle.pyr_graphtext.specs.Earlier.{datum_ids}
use Rattle.pyr_num.specs.declared.ids.DatumId.{DatumId}
use Rattle.pyr_graph.specs.System.{system_of}
use Rattle.pyr_graph.specs.Faults.{IsFault}
use Rattle.pyr_graphtext.proofs.ReadingLemmas.{told_makes}
use Rattle.pyr_graphtext.proofs.making.make_graph.Goals as goal

pub returns-in_ok-whole_fault-in-Err-clause-fault : goal.returns-in_ok-whole_fault-in-Err-clause-fault
returns-in_ok-whole_fault-in-Err-clause-fault c =
    told_makes _ c.args.names.now.datums c.args.names.now.tasks [] c.in-Err.fault c.in_ok-whole_fault-in-Err.field-0
    (subst (λ (ids : List DatumId). IsFault (system_of c.args.tasks.items c.args.datums.items ids) c.in-Err.fault) (c.in_ok-prints.ensures ∙ ap (datum_ids c.args.names.now.datums) c.as_slice.ensures) c.in-Err.ensures.fault)
    c.in_ok-whole_fault-in-Err.ensures
