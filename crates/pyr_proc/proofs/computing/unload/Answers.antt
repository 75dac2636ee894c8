use Rattle.std.proofs.Common.{◌∙◌, ℕ, List, length, ap}
use Rattle.pyr_num.specs.declared.ids.DatumId.{DatumId}
use Rattle.pyr_machine.specs.Machine.{all_stored}
use Rattle.pyr_machine.specs.Parcels.{parcel_tag, paired}
use Rattle.pyr_proc.specs.Entries.{store_of}
use Rattle.pyr_proc.proofs.ComputingLemmas.{output_size, unload_more}
use Rattle.pyr_proc.proofs.computing.unload.Goals as goal

pub put-requires-clause-fits : goal.put-requires-clause-fits
put-requires-clause-fits c =
    let none : DatumId = record { 0 = 0 } in
    ap (λ (v : List ℕ). length v) c.output.ensures
    ∙ (output_size c.args.writes.now c.args.entries.now c.loop-i.entries c.args.cells.now.outputs c.loop-i.i none c.requires.fit c.loop-i-test.true c.loop-i.invariant.1).0

pub loop-i-preserved : goal.loop-i-preserved
loop-i-preserved c =
    let none : DatumId = record { 0 = 0 } in
    let more = unload_more c.args.entries.now c.loop-i.entries (all_stored parcel_tag (paired c.args.writes.now c.args.cells.now.outputs) (store_of c.args.entries.now)) c.args.writes.now c.args.cells.now.outputs c.loop-i.i none c.output.result.now
    c.requires.known c.requires.fit c.loop-i-test.true c.output.ensures c.loop-i.invariant in
    rw c.put.ensures more
