use Rattle.std.proofs.Common.{subst}
use Rattle.std.specs.Prelude.{IfSome, IfNone}
use Rattle.pyr_machine.specs.Machine.{tag_rules}
use Rattle.pyr_machine.specs.Station.{world_of}
use Rattle.pyr_loader.specs.Unreceived.{IsFirst, HasNone}
use Rattle.pyr_loader.proofs.RehearsalLemmas.{stuck, left, good}
use Rattle.pyr_loader.proofs.rehearsal.rehearse.Goals as goal

pub returns-then-not-all_ended-clause-fault : goal.returns-then-not-all_ended-clause-fault
returns-then-not-all_ended-clause-fault c =
    stuck c.args.bundle.now (tag_rules c.run_out.new.tags.bundle) c.in_ok-steps.ensures.rules c.in_ok-steps.steps (world_of c.run_out.new.tags.posts) c.in_ok-steps.ensures.outcome c.all_ended.result c.all_ended.ensures
    c.in_ok-processors.processors c.if-not-all_ended.true c.in_ok-processors.ensures

pub returns-in-Some-clause-fault : goal.returns-in-Some-clause-fault
returns-in-Some-clause-fault c =
    left c.args.bundle.now (tag_rules c.run_out.new.tags.bundle) c.in_ok-steps.ensures.rules c.in_ok-steps.steps (world_of c.run_out.new.tags.posts) c.in_ok-steps.ensures.outcome c.all_ended.result c.all_ended.ensures
    c.is_bundle.ensures c.if-not-all_ended.false c.in-Some.left (subst (λ o. IfSome o (IsFirst c.args.bundle.now)) c.in-Some.is c.in_ok-left.ensures.some)

pub returns-clause-good : goal.returns-clause-good
returns-clause-good c =
    good c.args.bundle.now (tag_rules c.run_out.new.tags.bundle) c.in_ok-steps.ensures.rules c.in_ok-steps.steps (world_of c.run_out.new.tags.posts) c.in_ok-steps.ensures.outcome c.all_ended.result c.all_ended.ensures
    c.is_bundle.ensures c.if-not-all_ended.false (subst (λ o. IfNone o (HasNone c.args.bundle.now)) c.in_default.is c.in_ok-left.ensures.none)
