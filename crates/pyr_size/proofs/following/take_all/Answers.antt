use Rattle.std.proofs.Common.{◌∙◌, sym}
use Rattle.pyr_machine.specs.Station.{world_of}
use Rattle.pyr_size.specs.Followed.{KeepsLeft}
use Rattle.pyr_size.proofs.Going.{turn_can, turn_actor, action_is, takes, fewer, turn_kept, then_keeps}
use Rattle.pyr_size.proofs.following.take_all.Goals as goal

pub takes-init : goal.takes-init
takes-init c = record { rules = c.requires.rules; turn = c.requires.turn; left = λ whole schedule most left. left }

pub action-requires : goal.action-requires
action-requires c =
    turn_actor c.args.bundle.now c.takes.tags.bundle c.takes.invariant.rules c.args.p (world_of c.takes.tags.posts) c.takes.invariant.turn

pub step-requires : goal.step-requires
step-requires c =
    turn_can c.args.bundle.now c.takes.tags.bundle c.takes.invariant.rules c.args.p (world_of c.takes.tags.posts) c.takes.invariant.turn

pub takes-smaller : goal.takes-smaller
takes-smaller c =
    fewer c.args.bundle.now c.takes.tags.bundle c.takes.invariant.rules c.args.p (world_of c.takes.tags.posts) (world_of c.step.new.self.posts)
    c.well_formed-2.ensures c.step.ensures.step c.takes.invariant.turn

pub takes-preserved : goal.takes-preserved
takes-preserved c =
    let b = c.args.bundle.now in
    let i = c.takes.invariant in
    let w = world_of c.takes.tags.posts in
    let v = world_of c.step.new.self.posts in
    let keeps : KeepsLeft b c.args.p w v = takes b c.takes.tags.bundle i.rules c.args.p w v c.in-Take.from c.step.ensures.step (sym c.action.ensures ∙ c.in-Take.is) in
    record {
      rules = c.step.ensures.fixed ∙ i.rules;
      turn = turn_kept b c.args.p w v keeps i.turn;
      left = then_keeps b c.args.p (world_of c.args.tags.now.posts) w v i.left keeps;
    }

pub returns : goal.returns
returns c =
    let i = c.takes.invariant in
    record {
      rules = i.rules;
      left = i.left;
      ready = λ from e. c.in_default.not-Take from (c.action.ensures ∙ action_is c.args.bundle.now c.takes.tags.bundle i.rules c.args.p (world_of c.takes.tags.posts) ∙ e);
    }
