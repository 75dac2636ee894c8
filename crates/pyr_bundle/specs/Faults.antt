-- Lawful bundles, and the first breach of a law.
use Rattle.std.specs.Prelude.{◌≡◌, ℕ, ◌+◌, All, take, slice_get, Some}
use Rattle.pyr_bundle.specs.declared.raw_bundle.RawBundle.{RawBundle}
use Rattle.pyr_bundle.specs.declared.bundle_fault.BundleFault.{BundleFault}
use Rattle.pyr_bundle.specs.declared.bundle_fault.BundleFault.TheVariants.{Law as LawFault, Memory}
use Rattle.pyr_bundle.specs.Law.{Law, IsKept, IsFirstBreach}
use Rattle.pyr_bundle.specs.Laws.{names, accesses, writers, codes, prints, operands, executions, sends, receives, channels, capacities, laws}

-- every law is kept
pub record IsLawful (raw : RawBundle) : Type 0 where
  pub names : IsKept (names raw)
  pub accesses : IsKept (accesses raw)
  pub writers : IsKept (writers raw)
  pub codes : IsKept (codes raw)
  pub prints : IsKept (prints raw)
  pub operands : IsKept (operands raw)
  pub executions : IsKept (executions raw)
  pub sends : IsKept (sends raw)
  pub receives : IsKept (receives raw)
  pub channels : IsKept (channels raw)
  pub capacities : IsKept (capacities raw)

-- the law of this number is broken first at (a, b), and all laws of smaller numbers are kept
pub record IsFirstFault (raw : RawBundle) (number a b : ℕ) : Type 0 where
  pub index : ℕ
  pub law : Law
  pub numbered : number ≡ index + 1
  pub is_law : slice_get (laws raw) index ≡ Some law
  pub smaller : All IsKept (take index (laws raw))
  pub first : IsFirstBreach law a b

-- Why there is no bundle. Want of memory may come at any point.
abbrev pub IsCause : RawBundle → BundleFault → Type 0
IsCause raw (LawFault number a b) = IsFirstFault raw number a b
IsCause raw Memory = Unit {0}

-- this law, of this number, is broken, and this is its first place; or memory ran out
abbrev pub IsBroken : ℕ → Law → BundleFault → Type 0
IsBroken n law (LawFault number a b) = (number ≡ n) × IsFirstBreach law a b
IsBroken n law Memory = Unit {0}

-- One fault at most is told of the same parts, and none where they are lawful.
pub record OneFaultIsTold : Type 0 where
  pub one : (raw : RawBundle) (m a b n c d : ℕ) → IsFirstFault raw m a b → IsFirstFault raw n c d
      → (m ≡ n) × (a ≡ c) × (b ≡ d)
  pub none : (raw : RawBundle) (m a b : ℕ) → IsLawful raw → IsFirstFault raw m a b → ⊥
