use Rattle.std.proofs.Common.{◌<◌, sym, ap, ◌∙◌, subst}
use Rattle.pyr_num.specs.declared.ids.DatumId.{DatumId}
use Rattle.pyr_net.specs.Net.{Rules}
use Rattle.pyr_machine.specs.Machine.{LocalState}
use Rattle.pyr_machine.specs.Station.{world_of}
use Rattle.pyr_size.specs.Followed.{number_of}
use Rattle.pyr_size.proofs.Going.{turn_can, turn_kept, receiver_known, sends_turn, works_turn}
use Rattle.pyr_size.proofs.following.make_turn.Goals as goal

pub step-requires : goal.step-requires
step-requires c =
    let u = world_of c.args.tags.now.posts in
    let w = world_of c.take_all.new.tags.posts in
    turn_can c.args.bundle.now c.take_all.new.tags.bundle c.take_all.ensures.rules c.args.p w (turn_kept c.args.bundle.now c.args.p u w c.take_all.ensures.left c.requires.turn)

pub channel_len-length-requires-clause-to : goal.channel_len-length-requires-clause-to
channel_len-length-requires-clause-to c =
    subst (λ n. c.in-Send.to < n) (sym (ap (λ (net : Rules (LocalState DatumId) DatumId). net.actors) (c.step.ensures.fixed ∙ c.take_all.ensures.rules)))
    (receiver_known c.args.bundle.now c.take_all.new.tags.bundle c.take_all.ensures.rules c.args.p (world_of c.args.tags.now.posts) (world_of c.take_all.new.tags.posts) (world_of c.step.new.self.posts)
    c.take_all.ensures.left c.requires.turn c.step.ensures.step c.in-Send.to c.well_formed-2.ensures (sym c.action-action.ensures ∙ c.in-Send.is))

pub note-requires-clause-to : goal.note-requires-clause-to
note-requires-clause-to c =
    subst (λ n. c.in-Send.to < n) (sym c.requires.size)
    (receiver_known c.args.bundle.now c.take_all.new.tags.bundle c.take_all.ensures.rules c.args.p (world_of c.args.tags.now.posts) (world_of c.take_all.new.tags.posts) (world_of c.step.new.self.posts)
    c.take_all.ensures.left c.requires.turn c.step.ensures.step c.in-Send.to c.well_formed-2.ensures (sym c.action-action.ensures ∙ c.in-Send.is))

pub returns-in-Send-clause-made : goal.returns-in-Send-clause-made
returns-in-Send-clause-made c =
    sends_turn c.args.bundle.now c.take_all.new.tags.bundle c.take_all.ensures.rules c.args.p (world_of c.args.tags.now.posts) (world_of c.take_all.new.tags.posts) (world_of c.step.new.self.posts)
    c.take_all.ensures.left c.requires.turn c.step.ensures.step c.in-Send.to c.channel_len-length.result (number_of c.args.lengths.now) (number_of c.note.new.self)
    (sym c.action-action.ensures ∙ c.in-Send.is) c.channel_len-length.ensures c.note.ensures.raised

pub returns-in_default : goal.returns-in_default
returns-in_default c = record {
  rules = c.step.ensures.fixed ∙ c.take_all.ensures.rules;
  size = c.requires.size;
  made = works_turn c.args.bundle.now c.take_all.new.tags.bundle c.take_all.ensures.rules c.args.p (world_of c.args.tags.now.posts) (world_of c.take_all.new.tags.posts) (world_of c.step.new.self.posts)
      c.take_all.ensures.left c.requires.turn c.step.ensures.step (number_of c.args.lengths.now) (λ to e. c.in_default.not-Send to (c.action-action.ensures ∙ e)) c.take_all.ensures.ready;
}
