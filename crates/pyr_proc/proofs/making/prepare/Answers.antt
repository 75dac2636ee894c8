use Rattle.std.proofs.Common.{◌∙◌, ◌<◌, ap, arith, get_or, length}
use Rattle.pyr_num.specs.declared.ids.DatumId.{DatumId}
use Rattle.pyr_bundle.specs.declared.bundle_task.BundleTask.{BundleTask}
use Rattle.pyr_bundle.specs.Parts.{datum_count}
use Rattle.pyr_machine.proofs.Enabled.{known_writes}
use Rattle.pyr_proc.proofs.MakingLemmas.{prepare_more}
use Rattle.pyr_proc.proofs.making.prepare.Goals as goal

pub zeros-requires : goal.zeros-requires
zeros-requires c =
    let none : DatumId = record { 0 = 0 } in
    known_writes c.args.bundle.now c.args.t.0 c.as_slice-d-items.result.now c.well_formed-2.ensures c.requires.there (c.as_slice-d-items.ensures ∙ ap (λ (t : BundleTask). t.writes) c.task-task.ensures)
    c.loop-d.d-index none c.loop-d-test.true

pub bounds-entries-d : goal.bounds-entries-d
bounds-entries-d c =
    let none : DatumId = record { 0 = 0 } in
    let known : (get_or c.as_slice-d-items.result.now c.loop-d.d-index none).0 < datum_count c.args.bundle.now =
    known_writes c.args.bundle.now c.args.t.0 c.as_slice-d-items.result.now c.well_formed-2.ensures c.requires.there (c.as_slice-d-items.ensures ∙ ap (λ (t : BundleTask). t.writes) c.task-task.ensures)
    c.loop-d.d-index none c.loop-d-test.true in
    let k = c.loop-d.invariant.count in
    let n = c.requires.count in
    omega arith

pub loop-d-preserved : goal.loop-d-preserved
loop-d-preserved c =
    let none : DatumId = record { 0 = 0 } in
    let known : (get_or c.as_slice-d-items.result.now c.loop-d.d-index none).0 < datum_count c.args.bundle.now =
    known_writes c.args.bundle.now c.args.t.0 c.as_slice-d-items.result.now c.well_formed-2.ensures c.requires.there (c.as_slice-d-items.ensures ∙ ap (λ (t : BundleTask). t.writes) c.task-task.ensures)
    c.loop-d.d-index none c.loop-d-test.true in
    let low : (get_or c.as_slice-d-items.result.now c.loop-d.d-index none).0 < length c.loop-d.entries = (let k = c.loop-d.invariant.count in let n = c.requires.count in omega arith) in
    prepare_more c.args.bundle.now c.as_slice-d-items.result.now c.loop-d.d-index c.args.entries.now c.loop-d.entries none c.in_ok-zeros.field-0 c.loop-d-test.true low c.in_ok-zeros.ensures c.loop-d.invariant
