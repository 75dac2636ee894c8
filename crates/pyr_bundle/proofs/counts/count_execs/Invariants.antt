use Rattle.std.proofs.Common.{◌≡◌, ℕ, ◌+◌, ◌<◌, length, take, slice_index, count_by}
use Rattle.pyr_bundle.specs.Laws.{is_exec}
use Rattle.pyr_bundle.proofs.counts.count_execs.Given as goal

abbrev pub invariant-loop-instr : goal.invariant-loop-instr
invariant-loop-instr l =
    (t : ℕ) → t < length l.counts → slice_index l.counts t ≡ slice_index l.fn.counts t + count_by (is_exec t) (take l.instr-index l.code)
