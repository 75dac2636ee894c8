use Rattle.pyr_ends.proofs.Peers.{passed_on_at, busy_inside}
use Rattle.pyr_ends.proofs.heads.Heads.receive.Goals as goal

pub returns-clause-received : goal.returns-clause-received
returns-clause-received g c =
    passed_on_at _ _ _ _ _ c.self.view_is (busy_inside c.self.inside.ends.items c.args.self.now c.args.from.0 c.self.view_is c.requires.more) _ c.in-Some.is c.index_mut.ensures.value c.receive.ensures.received
