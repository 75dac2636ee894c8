use Rattle.pyr_top.proofs.OutputLemmas.{IsWritten}
use Rattle.pyr_top.proofs.outputs_text.output_lines.Given as goal

-- the lines so far, and those that are left, are all
abbrev pub invariant-loop-at : goal.invariant-loop-at
invariant-loop-at l = IsWritten l.names l.lists l.at l.text.items
