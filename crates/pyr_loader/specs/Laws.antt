-- What holds of the answers alone.
use Rattle.std.specs.Prelude.{◌≡◌, ◌≢◌, ℕ, List}
use Rattle.pyr_bundle.specs.Parts.{Parts, IsBundle}
use Rattle.pyr_machine.specs.Good.{IsGood, Loads}
use Rattle.pyr_loader.specs.declared.load_fault.LoadFault.{LoadFault}
use Rattle.pyr_loader.specs.declared.load_fault.LoadFault.TheVariants.{Memory}
use Rattle.pyr_loader.specs.Answer.{IsLoadOf, IsRefusal}
use Rattle.pyr_loader.specs.Safe.{IsSafe}

-- One text has one loaded bundle at most, one refusal at most, and not both.
pub record OneAnswerIsTold : Type 0 where
  pub one_load : (text : List ℕ) (l m : Loads) → IsLoadOf text l → IsLoadOf text m → l ≡ m
  pub one_refusal : (text : List ℕ) (fault other : LoadFault) → fault ≢ Memory → other ≢ Memory
      → IsRefusal text fault → IsRefusal text other → fault ≡ other
  pub not_both : (text : List ℕ) (l : Loads) (fault : LoadFault) → fault ≢ Memory
      → IsLoadOf text l → IsRefusal text fault → ⊥

-- every bundle with a complete run is safe
abbrev pub GoodBundlesAreSafe : Type 0
GoodBundlesAreSafe = (b : Parts) (steps : ℕ) → IsBundle b → IsGood b steps → IsSafe b steps
