-- Where a processor stands that has no step.
use Rattle.std.proofs.Common.{◌≡◌, ℕ, zero, suc, ◌+◌, ◌<◌, Bool, true, false, cond, not, List, [], ◌∷◌, ◌++◌, length, take, get_or, add-one, Option, Some, None, slice_get, refl, sym, ◌∙◌, ap, subst, arith}
use Rattle.std.specs.Prelude.{unwrap_or, IsSome, ◌&&◌}
use Rattle.std.specs.List.{list_all}
use Rattle.pyr_num.specs.declared.ids.DatumId.{DatumId}
use Rattle.pyr_num.specs.declared.ids.ProcId.{ProcId}
use Rattle.pyr_num.specs.declared.ids.TaskId.{TaskId}
use Rattle.pyr_net.specs.Net.{World, IsPossible}
use Rattle.pyr_net.specs.Run.{HasNoStep}
use Rattle.pyr_bundle.specs.declared.instr.Instr.{Instr}
use Rattle.pyr_bundle.specs.declared.instr.Instr.TheVariants.{Exec, Send}
use Rattle.pyr_bundle.specs.Parts.{Parts, processor_count, code_at, task_at, datum_id}
use Rattle.pyr_machine.specs.Machine.{LocalState, tag_rules, instr_at, holds, datum_tag}
use Rattle.pyr_machine.proofs.Enabled.{exec_action}
use Rattle.pyr_loader.specs.declared.stop.Stop.{Stop}
use Rattle.pyr_loader.specs.declared.stop.Reason.{Reason}
use Rattle.pyr_loader.specs.declared.stop.Reason.TheVariants.{Full, Lacks}
use Rattle.pyr_loader.specs.Stops.{first_missing, reason_at, stop_of, stops_below}

-- the search goes on where the store has what was looked at
pub missing_here : (store ds : List DatumId) (i : ℕ) (d : DatumId) → i < length ds → first_missing store (take i ds) ≡ None → holds datum_tag (get_or ds i d).0 store ≡ false → Some (get_or ds i d) ≡ first_missing store ds
missing_here store [] i d l h e = absurd (omega arith)
missing_here store (x ∷ ds) zero d l h e = rw e refl
missing_here store (x ∷ ds) (suc i) d l h e = at (holds datum_tag x.0 store) h (λ g. missing_here store ds i d (omega arith) g e)
  where
    at : (c : Bool) → cond (not c) (Some x) (first_missing store (take i ds)) ≡ None → (first_missing store (take i ds) ≡ None → Some (get_or ds i d) ≡ first_missing store ds) → Some (get_or ds i d) ≡ cond (not c) (Some x) (first_missing store ds)
    at true g ih = ih g
    at false g ih = absurd (let k : Some x ≡ None = g in cc)

pub none_missing_more : (store ds : List DatumId) (i : ℕ) (d : DatumId) → i < length ds → first_missing store (take i ds) ≡ None → holds datum_tag (get_or ds i d).0 store ≡ true → first_missing store (take (i + 1) ds) ≡ None
none_missing_more store ds i d l h e = rw add-one (go ds i l h e)
  where
    go : (xs : List DatumId) (j : ℕ) → j < length xs → first_missing store (take j xs) ≡ None → holds datum_tag (get_or xs j d).0 store ≡ true → first_missing store (take (suc j) xs) ≡ None
    go [] j m f g = absurd (omega arith)
    go (x ∷ xs) zero m f g = rw g refl
    go (x ∷ xs) (suc j) m f g = at (holds datum_tag x.0 store) f (λ k. go xs j (omega arith) k g)
      where
        at : (c : Bool) → cond (not c) (Some x) (first_missing store (take j xs)) ≡ None → (first_missing store (take j xs) ≡ None → first_missing store (take (suc j) xs) ≡ None) → cond (not c) (Some x) (first_missing store (take (suc j) xs)) ≡ None
        at true k ih = ih k
        at false k ih = absurd (let n : Some x ≡ None = k in cc)

-- where nothing is missing, the store has all
pub none_missing : (store ds : List DatumId) → first_missing store ds ≡ None → list_all (λ d. holds datum_tag d.0 store) ds ≡ true
none_missing store [] h = refl
none_missing store (d ∷ ds) h = at (holds datum_tag d.0 store) h (none_missing store ds)
  where
    at : (c : Bool) → cond (not c) (Some d) (first_missing store ds) ≡ None → (first_missing store ds ≡ None → list_all (λ e. holds datum_tag e.0 store) ds ≡ true) → (c && list_all (λ e. holds datum_tag e.0 store) ds) ≡ true
    at true g ih = ih g
    at false g ih = absurd (let k : Some d ≡ None = g in cc)

-- an execution that isn't enabled lacks a datum
pub some_missing : (b : Parts) (z : World (LocalState DatumId) DatumId) (p : ℕ) (t : TaskId) → p < processor_count b → HasNoStep (tag_rules b) z → instr_at b p (z.locals p) ≡ Some (Exec t) → IsSome (first_missing (z.locals p).store (task_at b t.0).reads)
some_missing b z p t l dead e = at (first_missing (z.locals p).store (task_at b t.0).reads) refl
  where
    at : (o : Option DatumId) → first_missing (z.locals p).store (task_at b t.0).reads ≡ o → IsSome o
    at (Some d) f = refl
    at None f = absurd (dead p (record {
      actor = l;
      possible = subst (IsPossible (tag_rules b) z p) (exec_action b p (z.locals p) t true e (none_missing (z.locals p).store (task_at b t.0).reads f)) tt;
    }))

pub stop_is : (b : Parts) (z : World (LocalState DatumId) DatumId) (p n : ℕ) (it : Option Instr) (r : Reason) → n ≡ (z.locals p).place → slice_get (code_at b p) n ≡ it → r ≡ reason_at b (z.locals p) it →
    record { place = n; reason = r } ≡ stop_of b z p
stop_is b z p n it r e f g =
    λ i. record { place = e i; reason = reason i }
  where
    reason : r ≡ reason_at b (z.locals p) (instr_at b p (z.locals p))
    reason = g ∙ ap (reason_at b (z.locals p)) (sym f ∙ ap (slice_get (code_at b p)) e)

-- the instruction at a place is p's next one
pub next_is : (b : Parts) (z : World (LocalState DatumId) DatumId) (p n : ℕ) (it : Option Instr) → n ≡ (z.locals p).place → slice_get (code_at b p) n ≡ it → instr_at b p (z.locals p) ≡ it
next_is b z p n it e f = ap (slice_get (code_at b p)) (sym e) ∙ f

pub lacks_first : (b : Parts) (l : LocalState DatumId) (t : TaskId) (o : Option DatumId) (d : DatumId) → o ≡ first_missing l.store (task_at b t.0).reads → o ≡ Some d → Lacks d ≡ reason_at b l (Some (Exec t))
lacks_first b l t o d e f = ap (λ x. Lacks (unwrap_or x (datum_id 0))) (sym f ∙ e)

pub is_full : (b : Parts) (l : LocalState DatumId) (to : ProcId) (d : DatumId) → holds datum_tag d.0 l.store ≡ true → Full to ≡ reason_at b l (Some (Send to d))
is_full b l to d e = rw e refl

pub lacks_sent : (b : Parts) (l : LocalState DatumId) (to : ProcId) (d : DatumId) → holds datum_tag d.0 l.store ≡ false → Lacks d ≡ reason_at b l (Some (Send to d))
lacks_sent b l to d e = rw e refl

-- one stop more
pub more_stops : (b : Parts) (z : World (LocalState DatumId) DatumId) (n : ℕ) (stops new : List Stop) (s : Stop) → stops ≡ stops_below b z n → new ≡ stops ++ s ∷ [] → s ≡ stop_of b z n → new ≡ stops_below b z (n + 1)
more_stops b z n stops new s e f g = rw add-one (f ∙ ap (λ xs. xs ++ s ∷ []) e ∙ ap (λ x. stops_below b z n ++ x ∷ []) g)
