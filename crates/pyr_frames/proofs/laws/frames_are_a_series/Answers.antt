use Rattle.pyr_frames.proofs.Frames.{is_series}
use Rattle.pyr_frames.proofs.laws.frames_are_a_series.Goals as goal

pub returns : goal.returns
returns c b steps n is good = is_series b steps n is good
