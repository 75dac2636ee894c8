-- The faults of the parts of loading, as faults of loading.
use Rattle.pyr_bundle.specs.declared.bundle_fault.BundleFault.{BundleFault}
use Rattle.pyr_bundle.specs.declared.bundle_fault.BundleFault.TheVariants as laws
use Rattle.pyr_bundletext.specs.declared.bundle_text_fault.BundleTextFault.{BundleTextFault}
use Rattle.pyr_bundletext.specs.declared.bundle_text_fault.BundleTextFault.TheVariants as texts
use Rattle.pyr_bundle.specs.Parts.{Parts}
use Rattle.pyr_loader.specs.declared.load_fault.LoadFault.{LoadFault}
use Rattle.pyr_loader.specs.declared.load_fault.LoadFault.TheVariants.{BadText, Limit, Law, Stuck, Leftover, Memory}
use Rattle.pyr_loader.specs.Answer.{IsStuck, HasLeftover}

-- a fault of the text
abbrev pub told_text : BundleTextFault → LoadFault
told_text (texts.BadText line) = BadText line
told_text (texts.Limit line which) = Limit line which
told_text texts.Memory = Memory

-- a broken law
abbrev pub told_law : BundleFault → LoadFault
told_law (laws.Law number a b) = Law number a b
told_law laws.Memory = Memory

-- how the longest runs of a bundle end that has no complete run; or memory ran out
abbrev pub IsRehearsalFault : Parts → LoadFault → Type 0
IsRehearsalFault b (BadText line) = ⊥
IsRehearsalFault b (Limit line which) = ⊥
IsRehearsalFault b (Law number x y) = ⊥
IsRehearsalFault b (Stuck stops) = IsStuck b stops
IsRehearsalFault b (Leftover from to d) = HasLeftover b from to d
IsRehearsalFault b Memory = Unit {0}
