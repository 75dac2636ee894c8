-- A processor has in its store what it has executed.
use Rattle.std.proofs.Common.{◌≡◌, ℕ, ◌<◌, ◌==◌, true, List, [], ◌∷◌, map, refl, sym, ◌∙◌, ap, subst}
use Rattle.std.specs.Prelude.{◌||◌}
use Rattle.pyr_num.specs.declared.ids.DatumId.{DatumId}
use Rattle.pyr_num.specs.declared.parcel.Parcel.{Parcel}
use Rattle.pyr_net.specs.Net.{World, next}
use Rattle.pyr_net.specs.Run.{IsRun, end_of}
use Rattle.pyr_bundle.specs.Parts.{Parts}
use Rattle.pyr_machine.specs.Machine.{LocalState, tag_rules, start, holds, datum_tag}
use Rattle.pyr_machine.specs.Parcels.{state_rules, parcel_tag, tag_of}
use Rattle.pyr_machine.specs.State.{Writes, IsExec, HasWritten}
use Rattle.pyr_machine.proofs.Kept.{has_next, start_has}
use Rattle.pyr_machine.proofs.Words.{words_alike}

-- along each run of the tag machine the stores have what was written
run_written : (b : Parts) (w : World (LocalState DatumId) DatumId) (run : List ℕ) →
    IsRun (tag_rules b) w run → ((p : ℕ) → HasWritten b p (w.locals p)) →
    (p : ℕ) → HasWritten b p ((end_of (tag_rules b) w run).locals p)
run_written b w [] r h = h
run_written b w (p ∷ run) r h = run_written b (next (tag_rules b) w p) run r.1 (has_next b w p r.0 h)

held_tags : (d : ℕ) (xs : List Parcel) → holds datum_tag d (map tag_of xs) ≡ holds parcel_tag d xs
held_tags d [] = refl
held_tags d (x ∷ xs) = ap (λ c. (x.tag.0 == d) || c) (held_tags d xs)

-- and so along each run of the machine with words
pub run_holds : (b : Parts) (frame : ℕ) (run : List ℕ) → IsRun (state_rules b frame) start run →
    (p i t d : ℕ) → i < ((end_of (state_rules b frame) start run).locals p).place →
    IsExec b p i t → Writes b t d →
    holds parcel_tag d ((end_of (state_rules b frame) start run).locals p).store ≡ true
run_holds b frame run r p i t d past executes writes =
    let alike = words_alike b frame run in
    let tagged = alike.ends r in
    let held = run_written b start run (alike.runs.0 r) (start_has b) p i t d (rw tagged past) executes writes in
    sym (held_tags d ((end_of (state_rules b frame) start run).locals p).store)
    ∙ subst (λ (v : World (LocalState DatumId) DatumId). holds datum_tag d (v.locals p).store ≡ true)
    tagged held
