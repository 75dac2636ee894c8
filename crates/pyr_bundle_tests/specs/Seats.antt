-- What the tests run.
use Rattle.std.specs.Prelude.{◌≡◌, ◌<◌}
use Rattle.pyr_bundle.specs.Parts.{Parts}
use Rattle.pyr_proc.specs.Seated.{Seated}

-- a processor that can run frame 0 of a bundle
pub record CanRun (b : Parts) (s : Seated) : Type 0 where
  pub bundle : s.bundle ≡ b
  pub ran : s.ran ≡ 0
  pub left : 0 < s.frames
