use Rattle.std.proofs.Common.{◌≡◌, ◌+◌, ◌≤◌, drop}
use Rattle.pyr_machine.specs.Counts.{sends_to}
use Rattle.pyr_proc.proofs.making.sends.Given as goal

-- what was counted and what is left are all
abbrev pub invariant-loop-instr : goal.invariant-loop-instr
invariant-loop-instr l = (l.count ≤ l.instr-index) × (l.count + sends_to l.p.0 (drop l.instr-index l.code) ≡ sends_to l.p.0 l.code)
