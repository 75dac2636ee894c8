use Rattle.pyr_bundle.proofs.LinkLemmas.{AreLinks}
use Rattle.pyr_bundle.proofs.channels.links_of.Given as goal

abbrev pub invariant-loop-from : goal.invariant-loop-from
invariant-loop-from l = AreLinks l.raw.code l.links.items l.from 0

abbrev pub invariant-loop-to : goal.invariant-loop-to
invariant-loop-to l = AreLinks l.raw.code l.links.items l.from l.to
