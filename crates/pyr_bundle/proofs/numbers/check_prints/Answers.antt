use Rattle.std.proofs.Common.{◌∙◌}
use Rattle.pyr_bundle.specs.Law.{Law, IsKept, IsFirstBreach}
use Rattle.pyr_bundle.specs.Laws.{prints}
use Rattle.pyr_bundle.proofs.Scans.{broken}
use Rattle.pyr_bundle.proofs.Stamps.{moved}
use Rattle.pyr_bundle.proofs.numbers.check_prints.Goals as goal

pub returns-in-Some-clause-fault : goal.returns-in-Some-clause-fault
unfolding prints
returns-in-Some-clause-fault c =
    broken 5 _ _ _ _ c.law.ensures (moved (λ (law : Law). IsFirstBreach law c.in-Some.i 0) _ _ _ _ (c.deref_mut.ensures.len ∙ c.in_ok-named.ensures.len ∙ c.len.ensures) c.as_slice.ensures c.in-Some.ensures.found)

pub returns-clause-ok : goal.returns-clause-ok
unfolding prints
returns-clause-ok c =
    moved IsKept _ _ _ _ (c.deref_mut.ensures.len ∙ c.in_ok-named.ensures.len ∙ c.len.ensures) c.as_slice.ensures c.in-None.ensures.found
