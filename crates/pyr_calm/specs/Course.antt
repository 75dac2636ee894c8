-- No public clause cites this. The sends and takes of a complete run of a bundle.
use Rattle.std.specs.Prelude.{◌≡◌, ℕ, ◌<◌, List, [], ◌∷◌}
use Rattle.pyr_net.specs.Run.{IsRun, HasNoStep, end_of}
use Rattle.pyr_bundle.specs.Parts.{Parts}
use Rattle.pyr_machine.specs.Machine.{tag_rules, start}
use Rattle.pyr_calm.specs.declared.passage.Passage.{Passage}
use Rattle.pyr_calm.specs.declared.passage.Passage.TheVariants.{Send as Sends, Take as Takes}
use Rattle.pyr_calm.specs.Passages.{passages_in}

-- both ends are among the first n
abbrev pub IsAmong : ℕ → Passage → Type 0
IsAmong n (Sends from to) = (from < n) × (to < n)
IsAmong n (Takes from to) = (from < n) × (to < n)

abbrev pub AreAmong : ℕ → List Passage → Type 0
AreAmong n [] = Unit {0}
AreAmong n (x ∷ xs) = IsAmong n x × AreAmong n xs

-- these are the passages of a run from the start to a state without a step
pub record IsCourse (b : Parts) (xs : List Passage) : Type 0 where
  pub run : List ℕ
  pub is_run : IsRun (tag_rules b) start run
  pub stopped : HasNoStep (tag_rules b) (end_of (tag_rules b) start run)
  pub passages : xs ≡ passages_in (tag_rules b) start run
