-- What a processor holds at the end of its local run.
use Rattle.std.proofs.Common.{◌≡◌, ℕ, ◌<◌, ◌==◌, true, List, [], ◌∷◌, length, map, refl, sym, ◌∙◌, ap, subst, arith}
use Rattle.std.specs.Prelude.{◌||◌}
use Rattle.std.proofs.lemmas.Option.{slice_get_within}
use Rattle.pyr_num.specs.declared.ids.DatumId.{DatumId}
use Rattle.pyr_num.specs.declared.parcel.Parcel.{Parcel}
use Rattle.pyr_net.specs.Net.{World, next}
use Rattle.pyr_net.specs.Run.{IsRun, end_of}
use Rattle.pyr_bundle.specs.Parts.{Parts, task_id, code_at}
use Rattle.pyr_bundle.specs.declared.instr.Instr.TheVariants.{Exec}
use Rattle.pyr_machine.specs.Machine.{LocalState, start, tag_rules, holds, datum_tag}
use Rattle.pyr_machine.specs.Parcels.{parcel_tag, tag_of, parcel_of, words_in, state_rules}
use Rattle.pyr_machine.specs.Follow.{local_map}
use Rattle.pyr_machine.specs.State.{HasWritten}
use Rattle.pyr_machine.specs.Values.{AllRight}
use Rattle.pyr_machine.proofs.Words.{words_alike}
use Rattle.pyr_machine.proofs.Kept.{has_next, start_has}
use Rattle.pyr_machine.proofs.Sound.{words_valued, words_right}
use Rattle.pyr_proc.specs.Laws.{EndsHaveValues}

-- along a run of the tag machine, each store has what its tasks have written
has_along : (b : Parts) (w : World (LocalState DatumId) DatumId) (run : List ℕ) → IsRun (tag_rules b) w run → ((p : ℕ) → HasWritten b p (w.locals p)) →
    (p : ℕ) → HasWritten b p ((end_of (tag_rules b) w run).locals p)
has_along b w [] r h = h
has_along b w (q ∷ run) r h = has_along b (next (tag_rules b) w q) run r.1 (has_next b w q r.0 h)

-- a parcel is there where its datum is
tags_hold : (d : ℕ) (xs : List Parcel) → holds datum_tag d (map tag_of xs) ≡ holds parcel_tag d xs
tags_hold d [] = refl
tags_hold d (x ∷ xs) = ap (λ c. (x.tag.0 == d) || c) (tags_hold d xs)

pub ends_have : EndsHaveValues
ends_have b frame order p i t d l is top ends exec writes = record { there = there; words = words }
  where
    z : World (LocalState Parcel) Parcel
    z = end_of (state_rules b frame) start ends.run

    tag_run : IsRun (tag_rules b) start ends.run
    tag_run = (words_alike b frame ends.run).runs.0 ends.is_run

    written : HasWritten b p (local_map tag_of l)
    written =
        subst (λ (m : LocalState Parcel). HasWritten b p (local_map tag_of m)) (sym ends.local)
        (subst (λ (w : World (LocalState DatumId) DatumId). HasWritten b p (w.locals p)) ((words_alike b frame ends.run).ends ends.is_run)
        (has_along b start ends.run tag_run (start_has b) p))

    there : holds parcel_tag d l.store ≡ true
    there =
        let low : i < length (code_at b p) = slice_get_within (code_at b p) i (Exec (task_id t)) exec in
        sym (tags_hold d l.store) ∙ written i t d (let e = ends.place in omega arith) exec writes

    words : words_in d l.store ≡ (parcel_of b frame order d).words
    words =
        let right = (words_valued b frame order ends.run is top ends.is_run).stores p in
        words_right b frame order d l.store (subst (λ (m : LocalState Parcel). AllRight parcel_tag (parcel_of b frame order) m.store) (sym ends.local) right) there
