use Rattle.std.proofs.Common.{◌≡◌, ◌∙◌, ap, subst}
use Rattle.pyr_net.specs.Net.{IsEnabled, action_at, next}
use Rattle.pyr_net.specs.Run.{HasNoStep}
use Rattle.pyr_machine.specs.Machine.{tags, tag_rules}
use Rattle.pyr_machine.specs.Station.{world_of}
use Rattle.pyr_machine.proofs.Bounded.{step_left}
use Rattle.pyr_calm.proofs.Courses.{on_course_first, on_course_more, on_course_last}
use Rattle.pyr_calm.proofs.course.course.Goals as goal

pub steps-init : goal.steps-init
steps-init c = (
  ap tag_rules c.in_ok-tags.ensures.bundle,
  on_course_first c.args.bundle.now _ _ c.new-passages.ensures.items c.in_ok-tags.ensures.start,
)

pub steps-smaller : goal.steps-smaller
steps-smaller c =
    let w = world_of c.steps.tags.posts in
    let b = c.args.bundle.now in
    let same = c.steps.invariant.0 in
    step_left (tags b) b w (world_of c.step.new.self.posts) c.in-Some.p c.well_formed-2.ensures
    (subst (λ net. IsEnabled net w c.in-Some.p) same c.in-Some.ensures.some)
    (subst (λ net. world_of c.step.new.self.posts ≡ next net w c.in-Some.p) same c.step.ensures.step)

pub steps-preserved : goal.steps-preserved
steps-preserved c =
    let w = world_of c.steps.tags.posts in
    let b = c.args.bundle.now in
    let same = c.steps.invariant.0 in (
      c.step.ensures.fixed ∙ same,
      on_course_more b _ _ w (world_of c.step.new.self.posts) c.in-Some.p c.action.result
          c.steps.invariant.1
          (subst (λ net. IsEnabled net w c.in-Some.p) same c.in-Some.ensures.some)
          (subst (λ net. c.action.result ≡ action_at net w c.in-Some.p) same c.action.ensures)
          c.in_ok-note.ensures
          (subst (λ net. world_of c.step.new.self.posts ≡ next net w c.in-Some.p) same
          c.step.ensures.step),
    )

pub returns : goal.returns
returns c =
    on_course_last c.args.bundle.now _ (world_of c.steps.tags.posts) c.steps.invariant.1
    (subst (λ net. HasNoStep net (world_of c.steps.tags.posts)) c.steps.invariant.0
    c.in_default.ensures.none)
