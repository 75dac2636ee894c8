use Rattle.std.proofs.Common.{◌≡◌, ℕ, ◌+◌, ◌<◌, length, take, slice_index}
use Rattle.std.specs.Prelude.{if◌then◌else◌, nat_eq}
use Rattle.std.specs.List.{list_any}
use Rattle.pyr_bundle.proofs.counts.count_writes.Given as goal

abbrev pub invariant-loop-number : goal.invariant-loop-number
invariant-loop-number l =
    (d : ℕ) → d < length l.counts → slice_index l.counts d ≡ slice_index l.fn.counts d + (if list_any (nat_eq d) (take l.number-index l.writes) then 1 else 0)
