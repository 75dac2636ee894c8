use Rattle.pyr_bundle_tests.proofs.SeatLemmas.{two_can}
use Rattle.pyr_bundle_tests.proofs.tests.proc.two_of.Goals as goal

pub returns : goal.returns
returns c =
    two_can c.args.loaded.now.bundle c.args.processors.items _ _ _ c.in_ok-first.first c.in_ok-second.second c.into_seat.result c.into_seat-2.result c.requires c.into_iter-processors.ensures.rest
    c.in_ok-first.ensures.items c.in_ok-second.ensures.items c.into_seat.ensures c.into_seat-2.ensures
