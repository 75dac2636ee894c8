use Rattle.std.proofs.Common.{◌≡◌, ◌∙◌, ◌+◌, ◌<◌, sym, ap, subst}
use Rattle.pyr_bundle.specs.Parts.{Parts, IsBundle}
use Rattle.pyr_machine.specs.Good.{IsGood}
use Rattle.pyr_proc.specs.Seated.{Seated, seated, HasRun}
use Rattle.pyr_proc.proofs.FrameLemmas.{begins, has_run, rests}
use Rattle.pyr_proc.proofs.seat.Seat.run.Goals as goal

pub run-requires-clause-running : goal.run-requires-clause-running
run-requires-clause-running g c = λ κs h.
    let same : c.self.inside.station.bundle ≡ c.args.loaded.now.bundle = ap (λ (s : Seated). s.bundle) c.self.view_is ∙ c.requires.bundle in
    let next : c.self.inside.ran ≡ c.args.frame = ap (λ (s : Seated). s.ran) c.self.view_is ∙ c.requires.next in
    let less : c.args.frame < c.self.inside.station.frames = rw (← c.self.view_is) at c.requires.left in
    begins c.args.loaded.now.steps c.args.frame c.self.inside.ran c.self.inside.station (subst IsBundle (sym same) c.is_good.ensures.bundle)
    (subst (λ (b : Parts). IsGood b c.args.loaded.now.steps) (sym same) c.is_good.ensures.good) c.self.invariant next less

pub invariant_of-self : goal.invariant_of-self
invariant_of-self g c =
    let same : c.self.inside.station.bundle ≡ c.args.loaded.now.bundle = ap (λ (s : Seated). s.bundle) c.self.view_is ∙ c.requires.bundle in
    let next : c.self.inside.ran ≡ c.args.frame = ap (λ (s : Seated). s.ran) c.self.view_is ∙ c.requires.next in
    let less : c.args.frame < c.self.inside.station.frames = rw (← c.self.view_is) at c.requires.left in
    let ran = has_run c.bundle.result.now c.args.frame c.self.inside.ran c.self.inside.station c.run.new.self (same ∙ sym c.bundle.ensures) c.run.ensures.goes_on c.run.ensures.end next in
    rests c.args.frame c.self.inside.ran c.self.inside.station c.run.new.self c.self.invariant ran next less

pub returns : goal.returns
returns g c =
    let same : c.self.inside.station.bundle ≡ c.args.loaded.now.bundle = ap (λ (s : Seated). s.bundle) c.self.view_is ∙ c.requires.bundle in
    let next : c.self.inside.ran ≡ c.args.frame = ap (λ (s : Seated). s.ran) c.self.view_is ∙ c.requires.next in
    let ran = has_run c.bundle.result.now c.args.frame c.self.inside.ran c.self.inside.station c.run.new.self (same ∙ sym c.bundle.ensures) c.run.ensures.goes_on c.run.ensures.end next in
    subst (λ s. HasRun c.args.frame s (seated c.run.new.self (c.self.inside.ran + 1))) c.self.view_is ran
