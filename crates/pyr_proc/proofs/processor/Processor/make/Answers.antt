use Rattle.std.proofs.Common.{sym, subst}
use Rattle.pyr_proc.specs.Seated.{AreFresh}
use Rattle.pyr_proc.proofs.MakingLemmas.{all_fresh}
use Rattle.pyr_proc.proofs.processor.Processor.make.Goals as goal

pub all_seated-requires-clause-bundle : goal.all_seated-requires-clause-bundle
all_seated-requires-clause-bundle g c = all_fresh c.args.loaded.now.bundle c.args.frames c.in_ok-seats.seats.items c.in_ok-seats.ensures

pub returns : goal.returns
returns g c = subst (AreFresh c.args.loaded.now.bundle c.args.frames) (sym c.all_seated.ensures) c.in_ok-seats.ensures
