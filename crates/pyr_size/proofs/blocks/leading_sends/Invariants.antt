use Rattle.std.proofs.Common.{◌≡◌, ◌+◌, drop}
use Rattle.pyr_size.specs.Blocks.{leading_sends}
use Rattle.pyr_size.proofs.blocks.leading_sends.Given as goal

-- what was counted and what is left are all
abbrev pub invariant-loop-instr : goal.invariant-loop-instr
invariant-loop-instr l = (l.count ≡ l.instr-index) × (l.count + leading_sends (drop l.instr-index l.code) ≡ leading_sends l.code)
