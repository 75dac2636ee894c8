use Rattle.std.proofs.Common.{ℕ, ◌<◌, ◌≤◌, length}
use Rattle.std.specs.Prelude.{slice_index}
use Rattle.pyr_merge.proofs.merging.least_loaded.Given as goal

abbrev pub invariant-loop-processor : goal.invariant-loop-processor
invariant-loop-processor l = record {
  inside : l.least < length l.loads;
  least : (q : ℕ) → q < l.processor → slice_index l.loads l.least ≤ slice_index l.loads q;
  smallest : (q : ℕ) → q < l.least → slice_index l.loads l.least < slice_index l.loads q;
}
