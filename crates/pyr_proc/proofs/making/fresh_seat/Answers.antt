use Rattle.pyr_proc.proofs.MakingLemmas.{fresh_rest}
use Rattle.pyr_proc.proofs.making.fresh_seat.Goals as goal

pub invariant_of-result : goal.invariant_of-result
invariant_of-result c = (fresh_rest c.args.bundle.now c.args.frames c.args.number.0 c.args.ends c.in_ok-station.station c.requires.known c.requires.one c.requires.ends c.in_ok-station.ensures).0

pub returns : goal.returns
returns c = (fresh_rest c.args.bundle.now c.args.frames c.args.number.0 c.args.ends c.in_ok-station.station c.requires.known c.requires.one c.requires.ends c.in_ok-station.ensures).1
