use Rattle.std.proofs.Common.{◌≡◌, ◌≤◌, vec_len, vec_capacity, length}
use Rattle.pyr_proc.specs.Making.{AreUnheld}
use Rattle.pyr_proc.proofs.making.empty_entries.Given as goal

abbrev pub invariant-loop : goal.invariant-loop
invariant-loop l = AreUnheld l.entries.items × (length l.entries.items ≡ l.counter) × (vec_len l.entries ≡ l.counter) × (l.count ≤ vec_capacity l.entries)
