-- The first faulty line of a text.
use Rattle.std.specs.Prelude.{◌≡◌, ℕ, ◌+◌, ◌⊎◌, List, [], ◌∷◌, length, Ok, Err, IsTrue, not, ⊤}
use Rattle.pyr_graphtext.specs.declared.line_fault.LineFault.{LineFault}
use Rattle.pyr_graphtext.specs.declared.line_fault.LineFault.TheVariants.{Text}
use Rattle.pyr_graphtext.specs.Lines.{lines}
use Rattle.pyr_graphtext.specs.Line.{Line}
use Rattle.pyr_graphtext.specs.Earlier.{stage_of}
use Rattle.pyr_graphtext.specs.Faults.{is_outside}
use Rattle.pyr_graphtext.specs.Outcome.{IsOutcome}

-- None of these lines is faulty, and this is what they say; the newest stands first in both lists.
abbrev pub Say : List (List ℕ) → List Line → Type 0
Say [] [] = ⊤
Say [] (f ∷ said) = ⊥
Say (l ∷ older) [] = ⊥
Say (l ∷ older) (f ∷ said) = Say older said × IsOutcome said l (Ok f)

-- the older lines, from the oldest on, and then these
abbrev pub onto : List (List ℕ) → List (List ℕ) → List (List ℕ)
onto [] later = later
onto (l ∷ older) later = onto older (l ∷ later)

-- Line n of the text is faulty so, and no line before it is.
pub record IsFaultyLine (text : List ℕ) (n : ℕ) (fault : LineFault) : Type 0 where
  pub older : List (List ℕ)
  pub said : List Line
  pub line : List ℕ
  pub later : List (List ℕ)
  pub parts : lines text ≡ onto older (line ∷ later)
  pub number : n ≡ length older + 1
  pub fine : Say older said
  pub faulty : IsOutcome said line (Err fault)

-- No line is faulty, and a task is open at the end of the text, which counts as line n.
pub record IsFaultyEnd (text : List ℕ) (n : ℕ) (fault : LineFault) : Type 0 where
  pub older : List (List ℕ)
  pub said : List Line
  pub parts : lines text ≡ onto older []
  pub number : n ≡ length older + 1
  pub fine : Say older said
  pub still_open : IsTrue (not (is_outside (stage_of said)))
  pub text_fault : fault ≡ Text

-- the first fault of the lines of a text, and of its end
abbrev pub IsFirstFault : List ℕ → ℕ → LineFault → Type 0
IsFirstFault text n fault = IsFaultyLine text n fault ⊎ IsFaultyEnd text n fault

-- No line is faulty, no task is open at the end, and this is what the lines say.
pub record IsFine (text : List ℕ) (said : List Line) : Type 0 where
  pub older : List (List ℕ)
  pub parts : lines text ≡ onto older []
  pub fine : Say older said
  pub closed : IsTrue (is_outside (stage_of said))
