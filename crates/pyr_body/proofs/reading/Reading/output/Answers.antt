use Rattle.std.proofs.Common.{ℕ, List, drop, subst}
use Rattle.pyr_num.specs.declared.name.Name.{Name}
use Rattle.pyr_body.specs.Names.{Answers, known}
use Rattle.pyr_body.specs.Taking.{LinesTaken}
use Rattle.pyr_body.proofs.TakingLemmas.{tail_is}
use Rattle.pyr_body.proofs.reading.Reading.output.Goals as goal

pub returns : goal.returns
returns c =
    subst (λ (t : LinesTaken). Answers (λ (o : ℕ). o) c.known.result (known c.args.name (drop t.reads t.slots))) c.self.view_is
    (subst (λ (names : List Name). Answers (λ (o : ℕ). o) c.known.result (known c.args.name names)) (tail_is _ _ _ c.as_slice.ensures) c.known.ensures)
