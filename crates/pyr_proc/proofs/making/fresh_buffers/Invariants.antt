use Rattle.std.proofs.Common.{◌≡◌, ◌≤◌, length, vec_len, vec_capacity}
use Rattle.pyr_proc.specs.Making.{AreBuffered}
use Rattle.pyr_proc.proofs.making.fresh_buffers.Given as goal

abbrev pub invariant-loop-instr : goal.invariant-loop-instr
invariant-loop-instr l = AreBuffered l.bundle l.fn.p.0 l.instr-index l.buffers.items × (vec_len l.buffers ≡ l.instr-index) × (length l.code ≤ vec_capacity l.buffers)
