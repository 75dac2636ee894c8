-- What a text's bundle and its complete run tell of what is loaded.
use Rattle.std.proofs.Common.{◌≡◌, ℕ, List, sym, subst, arith}
use Rattle.pyr_num.specs.declared.ids.DatumId.{DatumId}
use Rattle.pyr_bundle.specs.declared.raw_bundle.RawBundle.{RawBundle}
use Rattle.pyr_bundle.specs.Faults.{IsLawful}
use Rattle.pyr_bundle.specs.Parts.{Parts, IsBundle, parts_of}
use Rattle.pyr_bundle.proofs.WellFormedLemmas.{well_formed}
use Rattle.pyr_bundletext.specs.Answer.{StandsFor}
use Rattle.pyr_machine.specs.Machine.{tags}
use Rattle.pyr_machine.specs.Good.{IsGood, Loads}
use Rattle.pyr_machine.specs.Counts.{step_count}
use Rattle.pyr_machine.proofs.Bounded.{run_le, start_left}
use Rattle.pyr_machine.proofs.Exact.{complete_steps}
use Rattle.pyr_loader.specs.Answer.{IsLoadOf}
use Rattle.pyr_loader.specs.Safe.{IsSafe}
use Rattle.pyr_loader.proofs.Safety.{safe}

-- a complete run has as many steps as there are instructions and sends
all_steps : (b : Parts) (steps : ℕ) → IsBundle b → IsGood b steps → steps ≡ step_count b
all_steps b steps is good =
    let l = run_le (tags b) b _ good.run (well_formed b is) good.is_run in
    let m = start_left DatumId b in
    let k = complete_steps (tags b) b good.run good.is_run good.done in
    let n = good.count in
    omega arith

pub loaded : (text : List ℕ) (raw : RawBundle) (b : Parts) (steps : ℕ) (l : Loads) → IsBundle b → StandsFor text raw → b ≡ parts_of raw → IsLawful raw → IsGood b steps → l ≡ record { bundle = b; steps = steps } → IsLoadOf text l
loaded text raw b steps l is stands parts lawful good e = subst (IsLoadOf text) (sym e) (record {
  is_text = record { raw = raw; stands = stands; lawful = lawful; parts = parts };
  good = good;
  steps = all_steps b steps is good;
})

pub loaded_safe : (b : Parts) (steps : ℕ) (l : Loads) → IsBundle b → IsGood b steps → l ≡ record { bundle = b; steps = steps } → IsSafe l.bundle l.steps
loaded_safe b steps l is good e = subst (λ (m : Loads). IsSafe m.bundle m.steps) (sym e) (safe b steps is good)
