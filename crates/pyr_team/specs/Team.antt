-- What the run of a team gives.
use Rattle.std.specs.Prelude.{◌≡◌, ℕ, List, length, Some, slice_get}
use Rattle.pyr_bundle.specs.Parts.{Parts, processor_count}
use Rattle.pyr_proc.specs.Seated.{Seated, IsFresh, HasRun}

-- processor p of a bundle after it has run frame 0 from its start: it stands at the end of its local
-- run, and all its wires have passed on exactly their parcels
pub record HasRunAs (b : Parts) (p : ℕ) (t : Seated) : Type 0 where
  pub start : Seated
  pub fresh : IsFresh b 1 p start
  pub ran : HasRun 0 start t

-- one processor for each number of a bundle, by rising number, each of which has run frame 0
pub record HaveRun (b : Parts) (ran : List Seated) : Type 0 where
  pub count : length ran ≡ processor_count b
  pub each : (p : ℕ) (t : Seated) → slice_get ran p ≡ Some t → HasRunAs b p t
