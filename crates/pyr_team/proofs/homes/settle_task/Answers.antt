use Rattle.std.proofs.Common.{◌∙◌, ◌<◌, ap, get_or, length, refl, arith}
use Rattle.std.proofs.lemmas.List.{length-set}
use Rattle.std.proofs.lemmas.Option.{slice_get-get_or}
use Rattle.pyr_bundle.specs.declared.bundle_task.BundleTask.{BundleTask}
use Rattle.pyr_bundle.specs.Parts.{datum_id}
use Rattle.pyr_machine.proofs.Enabled.{known_writes}
use Rattle.pyr_team.proofs.HomeLemmas.{settles_more, settles_all, write_home}
use Rattle.pyr_team.proofs.homes.settle_task.Goals as goal

pub bounds-homes-d : goal.bounds-homes-d
bounds-homes-d c =
    let e = c.as_slice-d-items.ensures ∙ ap (λ (t : BundleTask). t.writes) c.task.ensures in
    let k = known_writes c.args.bundle.now c.args.task.0 c.as_slice-d-items.result.now c.well_formed-2.ensures c.requires.task e c.loop-d.d-index (datum_id 0) c.loop-d-test.true in
    let n = c.loop-d.invariant.count in
    let m = c.requires.count in
    omega arith

pub loop-d-preserved : goal.loop-d-preserved
loop-d-preserved c =
    let e = c.as_slice-d-items.ensures ∙ ap (λ (t : BundleTask). t.writes) c.task.ensures in
    let k = known_writes c.args.bundle.now c.args.task.0 c.as_slice-d-items.result.now c.well_formed-2.ensures c.requires.task e c.loop-d.d-index (datum_id 0) c.loop-d-test.true in
    let n = c.loop-d.invariant.count in
    let m = c.requires.count in
    let x = get_or c.as_slice-d-items.result.now c.loop-d.d-index (datum_id 0) in
    let l : x.0 < length c.loop-d.homes = omega arith in
    let at = slice_get-get_or c.as_slice-d-items.result.now c.loop-d.d-index (datum_id 0) c.loop-d-test.true in
    settles_more c.args.bundle.now c.as_slice-d-items.result.now c.loop-d.d-index x c.args.p c.args.homes.now c.loop-d.homes _ c.loop-d.invariant at l
    (write_home c.args.bundle.now c.args.task.0 c.loop-d.d-index c.args.p c.as_slice-d-items.result.now x e c.requires.task c.requires.here at) (length-set c.loop-d.homes x.0 c.args.p) refl

pub returns-clause-settled : goal.returns-clause-settled
returns-clause-settled c =
    settles_all c.args.bundle.now c.args.task.0 c.loop-d.d-index c.as_slice-d-items.result.now c.args.homes.now c.loop-d.homes (c.as_slice-d-items.ensures ∙ ap (λ (t : BundleTask). t.writes) c.task.ensures) c.loop-d-test.false
    c.loop-d.invariant
