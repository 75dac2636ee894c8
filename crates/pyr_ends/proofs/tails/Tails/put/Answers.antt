use Rattle.std.proofs.Common.{Some}
use Rattle.std.proofs.lemmas.List.{map-set}
use Rattle.pyr_ends.specs.Ends.{end_or_idle}
use Rattle.pyr_ends.proofs.tails.Tails.put.Goals as goal

pub returns : goal.returns
returns c = rw (← c.self.view_is) (map-set end_or_idle c.self.inside.ends.items c.args.peer.0 (Some c.args.tail))
