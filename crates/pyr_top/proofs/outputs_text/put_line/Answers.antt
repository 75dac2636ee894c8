use Rattle.std.proofs.Common.{◌∷◌, ℕ, decimal}
use Rattle.pyr_top.proofs.OutputLemmas.{written_more}
use Rattle.pyr_top.proofs.outputs_text.put_line.Goals as goal

pub loop-word-preserved : goal.loop-word-preserved
loop-word-preserved c =
    written_more (λ (word : ℕ). 32 ∷ decimal word) c.extend_from_slice-2.new.self.items c.loop-word.text.items c.put_number.new.text.items c.args.words.now c.loop-word.word-index 0 c.loop-word-test.true c.loop-word.invariant c.in_ok-put_number.ensures
