-- Where no processor can make a step, the reason that is told of each is true.
use Rattle.std.proofs.Common.{◌≡◌, ℕ, ◌<◌, ◌≤◌, Bool, true, false, cond, not, List, [], ◌∷◌, length, Option, Some, None, ◌⊎◌, inl, inr, refl, sym, ◌∙◌, ap, subst, arith}
use Rattle.std.specs.Prelude.{unwrap_or}
use Rattle.pyr_num.specs.declared.ids.DatumId.{DatumId}
use Rattle.pyr_net.specs.Net.{World, IsPossible}
use Rattle.pyr_net.specs.Run.{HasNoStep}
use Rattle.pyr_net.specs.declared.action.Action.TheVariants.{Internal, Send as SendTo, Take, Lacks as LacksOne}
use Rattle.pyr_bundle.specs.declared.instr.Instr.{Instr}
use Rattle.pyr_bundle.specs.declared.instr.Instr.TheVariants.{Recv, Exec, Send}
use Rattle.pyr_bundle.specs.Parts.{Parts, processor_count, task_at, datum_id}
use Rattle.pyr_machine.specs.Machine.{LocalState, tags, tag_rules, capacity_of, instr_at, action_by, holds, datum_tag}
use Rattle.pyr_loader.specs.declared.stop.Reason.TheVariants.{Full, Lacks}
use Rattle.pyr_loader.specs.Stops.{first_missing, reason_at, IsFirstMissing, IsReason, ReasonsAreTrue}
use Rattle.pyr_loader.proofs.StopLemmas.{none_missing}

is_first : (store ds : List DatumId) (d : DatumId) → first_missing store ds ≡ Some d → IsFirstMissing store ds d
is_first store [] d e = absurd (let k : None ≡ Some d = e in cc)
is_first store (x ∷ ds) d e = at (holds datum_tag x.0 store) refl e (λ f. is_first store ds d f)
  where
    at : (c : Bool) → holds datum_tag x.0 store ≡ c → cond (not c) (Some x) (first_missing store ds) ≡ Some d → (first_missing store ds ≡ Some d → IsFirstMissing store ds d) → IsFirstMissing store (x ∷ ds) d
    at true f g ih =
        let h = ih g in
        record { before = x ∷ h.before; after = h.after; parts = ap (λ xs. x ∷ xs) h.parts; there = rw f h.there; missing = h.missing }
    at false f g ih = record { before = []; after = ds; parts = ap (λ y. y ∷ ds) same; there = refl; missing = ap (λ y. holds datum_tag y.0 store) (sym same) ∙ f }
      where
        get : Option DatumId → DatumId
        get None = x
        get (Some y) = y

        same : x ≡ d
        same = ap get g

no_parcel : {P : Type 0} (xs : List P) → (0 < length xs → ⊥) → xs ≡ []
no_parcel [] h = refl
no_parcel (x ∷ xs) h = absurd (h (omega arith))

no_room : (m n : ℕ) → (m < n → ⊥) → n ≤ m
no_room m n h = at (le_or_lt n m)
  where
    le_or_lt : (x y : ℕ) → (x ≤ y) ⊎ (y < x)
    le_or_lt x y = grind arith

    at : (n ≤ m) ⊎ (m < n) → n ≤ m
    at (inl l) = l
    at (inr l) = absurd (h l)

module _ (b : Parts) (z : World (LocalState DatumId) DatumId) (p : ℕ) (l : p < processor_count b) (dead : HasNoStep (tag_rules b) z) where
  -- what p's next action would be isn't possible
  impossible : (it : Option Instr) → instr_at b p (z.locals p) ≡ it → IsPossible (tag_rules b) z p (action_by (tags b) b it (z.locals p)) → ⊥
  impossible it e h = dead p (record { actor = l; possible = subst (λ i. IsPossible (tag_rules b) z p (action_by (tags b) b i (z.locals p))) (sym e) h })

  reason : (it : Option Instr) → instr_at b p (z.locals p) ≡ it → IsReason b z p (reason_at b (z.locals p) it)
  reason None e = e
  reason (Some (Recv from d)) e = at (holds datum_tag d.0 (z.locals p).stash) refl (impossible (Some (Recv from d)) e)
    where
      at : (c : Bool) → holds datum_tag d.0 (z.locals p).stash ≡ c → (IsPossible (tag_rules b) z p (cond c Internal (Take from.0)) → ⊥) → IsReason b z p (reason_at b (z.locals p) (Some (Recv from d)))
      at true f no_step = absurd (no_step tt)
      at false f no_step = record { datum = d; next = e; absent = f; empty = no_parcel (z.lists from.0 p) no_step }
  reason (Some (Exec t)) e = at (first_missing (z.locals p).store (task_at b t.0).reads) refl (impossible (Some (Exec t)) e)
    where
      at : (o : Option DatumId) → first_missing (z.locals p).store (task_at b t.0).reads ≡ o → (IsPossible (tag_rules b) z p (action_by (tags b) b (Some (Exec t)) (z.locals p)) → ⊥) → IsReason b z p (Lacks (unwrap_or o (datum_id 0)))
      at (Some d) f no_step = inl (record { task = t; next = e; first = is_first (z.locals p).store (task_at b t.0).reads d f })
      at None f no_step =
          absurd (no_step (subst (λ c. IsPossible (tag_rules b) z p (cond c Internal LacksOne)) (sym (none_missing (z.locals p).store (task_at b t.0).reads f)) tt))
  reason (Some (Send to d)) e = at (holds datum_tag d.0 (z.locals p).store) refl (impossible (Some (Send to d)) e)
    where
      at : (c : Bool) → holds datum_tag d.0 (z.locals p).store ≡ c → (IsPossible (tag_rules b) z p (cond c (SendTo to.0) LacksOne) → ⊥) → IsReason b z p (cond c (Full to) (Lacks d))
      at true f no_step = record { datum = d; next = e; there = f; full = no_room (length (z.lists p to.0)) (capacity_of b p to.0) no_step }
      at false f no_step = inr (record { to = to; next = e; missing = f })

pub true_reasons : ReasonsAreTrue
true_reasons b z p l dead = reason b z p l dead (instr_at b p (z.locals p)) refl
