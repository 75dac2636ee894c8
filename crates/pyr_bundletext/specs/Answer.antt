-- What reading a bundle text answers: the bundle that has this text, or the first fault.
use Rattle.std.specs.Prelude.{◌≡◌, ◌≢◌, ℕ, ◌+◌, List, [], ◌∷◌, ◌++◌, length, Some, None, IsTrue, ⊤}
use Rattle.pyr_num.specs.declared.limits.Quantity.{Quantity}
use Rattle.pyr_bundle.specs.declared.raw_bundle.RawBundle.{RawBundle}
use Rattle.pyr_bundle.specs.Raw.{IsWithinLimits}
use Rattle.pyr_bundletext.specs.declared.bundle_text_fault.BundleTextFault.{BundleTextFault}
use Rattle.pyr_bundletext.specs.declared.bundle_text_fault.BundleTextFault.TheVariants.{BadText, Limit, Memory}
use Rattle.pyr_bundletext.specs.declared.line.Line.{Line}
use Rattle.pyr_bundletext.specs.declared.stage.Stage.TheVariants as stages
use Rattle.pyr_bundletext.specs.Text.{text_of}
use Rattle.pyr_bundletext.specs.Spelled.{IsSpelled}
use Rattle.pyr_bundletext.specs.Line.{IsLine, line_text, text_said}
use Rattle.pyr_bundletext.specs.Earlier.{stage_of, said_by}
use Rattle.pyr_bundletext.specs.Faults.{may_stand, passed_limit}

-- The text is that of these parts: every number is within the limits, and what is written as a
-- number of 64 bits or as a name is one.
pub record StandsFor (text : List ℕ) (raw : RawBundle) : Type 0 where
  pub written : text ≡ text_of raw
  pub limits : IsWithinLimits raw
  pub spelled : IsSpelled raw

-- each of these lines may stand behind those before it, and passes no limit there; the newest
-- stands first
pub record IsFineBehind (older : List Line) (l : Line) : Type 0 where
  pub is_line : IsLine l
  pub stands : IsTrue (may_stand (said_by older) l)
  pub limits : passed_limit (said_by older) l ≡ None

abbrev pub AreFine : List Line → Type 0
AreFine [] = ⊤
AreFine (l ∷ older) = AreFine older × IsFineBehind older l

-- Behind these lines no line begins the rest of the text that may stand there: the next line is
-- another, isn't ended by a line feed, or is missing.
pub record IsBadText (older : List Line) (rest : List ℕ) : Type 0 where
  pub none : (l : Line) (others : List ℕ) → IsLine l → rest ≡ line_text l ++ others
      → IsTrue (may_stand (said_by older) l) → ⊥
  -- the end of the text behind its last line is no fault
  pub goes_on : stage_of older ≡ stages.Stopped → rest ≢ []

-- the next line may stand there, and this is the first limit that it passes
pub record PassesLimit (older : List Line) (rest : List ℕ) (which : Quantity) : Type 0 where
  pub l : Line
  pub others : List ℕ
  pub is_line : IsLine l
  pub begins : rest ≡ line_text l ++ others
  pub stands : IsTrue (may_stand (said_by older) l)
  pub limit : passed_limit (said_by older) l ≡ Some which

-- Line n of the text is the first one that isn't fine; such is what is left of the text there.
pub record IsFirstFault (text : List ℕ) (n : ℕ) (IsFault : List Line → List ℕ → Type 0) : Type 0 where
  pub older : List Line
  pub rest : List ℕ
  pub fine : AreFine older
  pub parts : text ≡ text_said older ++ rest
  pub number : n ≡ length older + 1
  pub faulty : IsFault older rest

-- The fault is that of the first line that isn't fine. Want of memory may come at any point.
abbrev pub IsFaultOf : List ℕ → BundleTextFault → Type 0
IsFaultOf text (BadText line) = IsFirstFault text line IsBadText
IsFaultOf text (Limit line which) =
    IsFirstFault text line (λ older rest. PassesLimit older rest which)
IsFaultOf text Memory = ⊤

-- One text stands for one bundle at most, has one fault at most, and not both.
pub record OneAnswerIsTold : Type 0 where
  pub one_bundle : (text : List ℕ) (raw other : RawBundle)
      → StandsFor text raw → StandsFor text other → raw ≡ other
  pub one_fault : (text : List ℕ) (fault other : BundleTextFault) → fault ≢ Memory → other ≢ Memory
      → IsFaultOf text fault → IsFaultOf text other → fault ≡ other
  pub not_both : (text : List ℕ) (raw : RawBundle) (fault : BundleTextFault) → fault ≢ Memory
      → StandsFor text raw → IsFaultOf text fault → ⊥
