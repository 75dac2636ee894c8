use Rattle.std.proofs.Common.{length, map, ap, ◌∙◌}
use Rattle.pyr_body.proofs.RunLemmas.{length-with_word, lengths-with_word}
use Rattle.pyr_body.proofs.evaluation.+run.Goals as goal

pub run_stmt-returns-in-Put-clause-lengths : goal.run_stmt-returns-in-Put-clause-lengths
run_stmt-returns-in-Put-clause-lengths t c =
    ap (λ v. map length v.outputs) c.put.ensures ∙ lengths-with_word _ _ _ _

pub run_stmt-returns-in-Put-clause-count : goal.run_stmt-returns-in-Put-clause-count
run_stmt-returns-in-Put-clause-count t c =
    ap (λ v. length v.outputs) c.put.ensures ∙ length-with_word _ _ _ _
