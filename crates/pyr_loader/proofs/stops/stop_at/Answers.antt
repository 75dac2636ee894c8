use Rattle.std.proofs.Common.{sym, ◌∙◌, ap, subst, refl, Some}
use Rattle.std.specs.Prelude.{IsSome}
use Rattle.pyr_bundle.specs.declared.instr.Instr.TheVariants.{Exec}
use Rattle.pyr_machine.specs.Station.{world_of}
use Rattle.pyr_loader.specs.Stops.{first_missing}
use Rattle.pyr_loader.proofs.StopLemmas.{stop_is, next_is, some_missing, lacks_first, is_full, lacks_sent}
use Rattle.pyr_loader.proofs.stops.stop_at.Goals as goal

pub task-requires : goal.task-requires
task-requires c =
    c.well_formed-2.ensures.instrs c.args.p.0 c.place-place.result (Exec c.in-Some-Exec.task) (sym c.instr_of.ensures ∙ c.in-Some-Exec.is ∙ ap Some c.in-Some-Exec.field-0-is)

pub unwrap-datum-requires : goal.unwrap-datum-requires
unwrap-datum-requires c =
    let z = world_of c.args.tags.now.posts in
    let p = c.args.p.0 in
    let next = next_is c.args.bundle.now z p c.place-place.result _ c.place-place.ensures (sym c.instr_of.ensures ∙ c.in-Some-Exec.is ∙ ap Some c.in-Some-Exec.field-0-is) in
    subst IsSome (sym (c.missing.ensures ∙ ap (first_missing (z.locals p).store) (c.as_slice-reads.ensures ∙ ap (λ t. t.reads) c.task.ensures)))
    (some_missing c.args.bundle.now z p c.in-Some-Exec.task c.requires.actor c.requires.stopped next)

pub returns-in-Some-Exec : goal.returns-in-Some-Exec
returns-in-Some-Exec c =
    let z = world_of c.args.tags.now.posts in
    let p = c.args.p.0 in
    stop_is c.args.bundle.now z p c.place-place.result _ _ c.place-place.ensures (sym c.instr_of.ensures ∙ c.in-Some-Exec.is ∙ ap Some c.in-Some-Exec.field-0-is)
    (lacks_first c.args.bundle.now (z.locals p) c.in-Some-Exec.task c.missing.result c.unwrap-datum.result
    (c.missing.ensures ∙ ap (first_missing (z.locals p).store) (c.as_slice-reads.ensures ∙ ap (λ t. t.reads) c.task.ensures)) c.unwrap-datum.ensures)

pub returns-in-None : goal.returns-in-None
returns-in-None c =
    stop_is c.args.bundle.now (world_of c.args.tags.now.posts) c.args.p.0 c.place-place.result _ _ c.place-place.ensures (sym c.instr_of.ensures ∙ c.in-None.is) refl

pub returns-in-Some-Recv : goal.returns-in-Some-Recv
returns-in-Some-Recv c =
    stop_is c.args.bundle.now (world_of c.args.tags.now.posts) c.args.p.0 c.place-place.result _ _ c.place-place.ensures
    (sym c.instr_of.ensures ∙ c.in-Some-Recv.is ∙ ap Some c.in-Some-Recv.field-0-is) refl

pub returns-then-has : goal.returns-then-has
returns-then-has c =
    let z = world_of c.args.tags.now.posts in
    stop_is c.args.bundle.now z c.args.p.0 c.place-place.result _ _ c.place-place.ensures
    (sym c.instr_of.ensures ∙ c.in-Some-Send.is ∙ ap Some c.in-Some-Send.field-0-is)
    (is_full c.args.bundle.now (z.locals c.args.p.0) c.in-Some-Send.to c.in-Some-Send.datum (sym c.has.ensures ∙ c.if-has.true))

pub returns-else-has : goal.returns-else-has
returns-else-has c =
    let z = world_of c.args.tags.now.posts in
    stop_is c.args.bundle.now z c.args.p.0 c.place-place.result _ _ c.place-place.ensures
    (sym c.instr_of.ensures ∙ c.in-Some-Send.is ∙ ap Some c.in-Some-Send.field-0-is)
    (lacks_sent c.args.bundle.now (z.locals c.args.p.0) c.in-Some-Send.to c.in-Some-Send.datum (sym c.has.ensures ∙ c.if-has.false))
