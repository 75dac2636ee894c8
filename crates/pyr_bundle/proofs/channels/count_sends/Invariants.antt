use Rattle.std.proofs.Common.{◌≡◌, ℕ, ◌+◌, ◌<◌, length, take, slice_index, count_by}
use Rattle.pyr_bundle.specs.Laws.{is_send_to}
use Rattle.pyr_bundle.proofs.channels.count_sends.Given as goal

abbrev pub invariant-loop-instr : goal.invariant-loop-instr
invariant-loop-instr l =
    (q : ℕ) → q < length l.counts → slice_index l.counts q ≡ slice_index l.fn.counts q + count_by (is_send_to q) (take l.instr-index l.code)
