-- What loading a bundle text answers, and when each answer comes.
use Rattle.std.specs.Prelude.{◌≡◌, ℕ, List, ⊤}
use Rattle.pyr_num.specs.declared.ids.DatumId.{DatumId}
use Rattle.pyr_num.specs.declared.ids.ProcId.{ProcId}
use Rattle.pyr_net.specs.Net.{World}
use Rattle.pyr_net.specs.Run.{IsRun, end_of, IsEnded, IsOutcome}
use Rattle.pyr_bundle.specs.declared.raw_bundle.RawBundle.{RawBundle}
use Rattle.pyr_bundle.specs.declared.bundle_fault.BundleFault.TheVariants as laws
use Rattle.pyr_bundle.specs.Faults.{IsLawful, IsCause}
use Rattle.pyr_bundle.specs.Parts.{Parts, parts_of}
use Rattle.pyr_bundletext.specs.declared.bundle_text_fault.BundleTextFault.TheVariants as texts
use Rattle.pyr_bundletext.specs.Answer.{StandsFor, IsFaultOf}
use Rattle.pyr_machine.specs.Machine.{LocalState, tag_rules, start}
use Rattle.pyr_machine.specs.Good.{IsGood, Loads}
use Rattle.pyr_machine.specs.Counts.{step_count}
use Rattle.pyr_loader.specs.declared.stop.Stop.{Stop}
use Rattle.pyr_loader.specs.declared.load_fault.LoadFault.{LoadFault}
use Rattle.pyr_loader.specs.declared.load_fault.LoadFault.TheVariants.{BadText, Limit, Law, Stuck, Leftover, Memory}
use Rattle.pyr_loader.specs.Stops.{stops_of}
use Rattle.pyr_loader.specs.Leftover.{IsFirstLeft}

-- The text is that of this bundle: the one spelling of its parts, which are within the limits and
-- keep every law.
pub record IsTextOf (text : List ℕ) (b : Parts) : Type 0 where
  pub raw : RawBundle
  pub stands : StandsFor text raw
  pub lawful : IsLawful raw
  pub parts : b ≡ parts_of raw

-- The text is that of this bundle, and a complete run of it exists. Each has so many steps: as many
-- as the bundle has instructions and sends together.
pub record IsLoadOf (text : List ℕ) (l : Loads) : Type 0 where
  pub is_text : IsTextOf text l.bundle
  pub good : IsGood l.bundle l.steps
  pub steps : l.steps ≡ step_count l.bundle

-- No run of the bundle reaches an ended state. All longest runs end in one state, and the stops are
-- those of the processors there.
pub record IsStuck (b : Parts) (stops : List Stop) : Type 0 where
  pub never : (run : List ℕ) → IsRun (tag_rules b) start run
      → ¬ IsEnded (tag_rules b) (end_of (tag_rules b) start run)
  pub count : ℕ
  pub state : World (LocalState DatumId) DatumId
  pub outcome : IsOutcome (tag_rules b) start count state
  pub stops_are : stops ≡ stops_of b state

-- A run reaches an ended state in which a parcel is in a channel or a stash; of all sends whose
-- parcel is, this is the first.
pub record HasLeftover (b : Parts) (from to : ProcId) (d : DatumId) : Type 0 where
  pub run : List ℕ
  pub is_run : IsRun (tag_rules b) start run
  pub ended : IsEnded (tag_rules b) (end_of (tag_rules b) start run)
  pub first : IsFirstLeft b (end_of (tag_rules b) start run) from to d

-- Why no bundle is loaded: the fault of the text, then the law that its parts break, then how the
-- longest runs of its bundle end. Want of memory may come at any point.
abbrev pub IsRefusal : List ℕ → LoadFault → Type 0
IsRefusal text (BadText line) = IsFaultOf text (texts.BadText line)
IsRefusal text (Limit line which) = IsFaultOf text (texts.Limit line which)
IsRefusal text (Law number a b) =
    (raw : RawBundle) × StandsFor text raw × IsCause raw (laws.Law number a b)
IsRefusal text (Stuck stops) = (b : Parts) × IsTextOf text b × IsStuck b stops
IsRefusal text (Leftover from to d) = (b : Parts) × IsTextOf text b × HasLeftover b from to d
IsRefusal text Memory = ⊤
