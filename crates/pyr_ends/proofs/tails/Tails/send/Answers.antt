use Rattle.pyr_ends.proofs.Peers.{passed_on_at, next_inside}
use Rattle.pyr_ends.proofs.tails.Tails.send.Goals as goal

pub returns : goal.returns
returns g c = record {
  sent = passed_on_at _ _ _ _ _ c.self.view_is (next_inside c.self.inside.ends.items c.args.self.now c.args.to.0 c.args.parcel c.self.view_is c.requires.next) _ c.in-Some.is c.index_mut.ensures.value
      c.send.ensures.sent;
}
