use Rattle.std.proofs.Common.{ap}
use Rattle.pyr_num.specs.declared.ids.DatumId.{DatumId}
use Rattle.pyr_bundle.specs.declared.raw_datum.RawDatum.{RawDatum}
use Rattle.pyr_machine.proofs.ComputeLemmas.{output_fits}
use Rattle.pyr_proc.proofs.computing.open.Goals as goal

pub add_output-requires-clause-words : goal.add_output-requires-clause-words
add_output-requires-clause-words c =
    let none : DatumId = record { 0 = 0 } in
    output_fits c.args.bundle.now c.args.cells.now c.loop-d.cells c.args.writes.now c.loop-d.d-index c.datum.result.length none c.loop-d-test.true
    (ap (λ (d : RawDatum). d.length) c.datum.ensures) c.loop-d.invariant c.requires.words
