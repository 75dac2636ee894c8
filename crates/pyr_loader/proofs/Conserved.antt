-- Along every run of the tag machine, what was sent is in a channel, in a stash, or received.
use Rattle.std.proofs.Common.{◌≡◌, ◌≢◌, ℕ, zero, suc, ◌+◌, ◌<◌, ◌==◌, Bool, true, false, cond, List, [], ◌∷◌, ◌++◌, length, take, Option, Some, None, slice_get, ◌⊎◌, inl, inr, refl, sym, ◌∙◌, ap, subst, arith}
use Rattle.std.specs.List.{list_any, list_all}
use Rattle.std.proofs.lemmas.Bool.Decides.{eqb_tells}
use Rattle.pyr_num.specs.declared.ids.DatumId.{DatumId}
use Rattle.pyr_num.specs.declared.ids.ProcId.{ProcId}
use Rattle.pyr_num.specs.declared.ids.TaskId.{TaskId}
use Rattle.pyr_net.specs.Net.{World, IsEnabled, IsPossible, action_at, next, state_after, put, changed, rest_of, local_taken}
use Rattle.pyr_net.specs.Run.{IsRun, end_of}
use Rattle.pyr_net.specs.declared.action.Action.{Action}
use Rattle.pyr_net.specs.declared.action.Action.TheVariants.{Internal, Send as SendTo, Take, Lacks}
use Rattle.pyr_bundle.specs.declared.instr.Instr.{Instr}
use Rattle.pyr_bundle.specs.declared.instr.Instr.TheVariants.{Recv, Exec, Send}
use Rattle.pyr_bundle.specs.Parts.{Parts, processor_count, code_at, task_at}
use Rattle.pyr_bundle.specs.WellFormed.{IsWellFormed}
use Rattle.pyr_machine.specs.Machine.{LocalState, tags, tag_rules, start, instr_at, action_by, worked_by, advanced, datum_by, holds, stored, all_stored, without, stashed, datum_tag}
use Rattle.pyr_machine.specs.Schedule.{tally, is_receive, is_send, gives, passed, further, at_start, occurs, IsStanding}
use Rattle.pyr_machine.specs.Counts.{sum_below}
use Rattle.pyr_machine.proofs.Tallies.{some_holds, without_same, without_other, stored_kept, stored_new, all_stored_kept, all_stored_new}
use Rattle.pyr_machine.proofs.Standing.{advance, send}
use Rattle.pyr_machine.proofs.Takes.{taken_over}

-- the processors have come to some places, and each parcel that was sent is somewhere
pub record IsConserved (b : Parts) (w : World (LocalState DatumId) DatumId) : Type 0 where
  pub places : ℕ → ℕ
  pub stands : IsStanding (tags b) b places w

module _ (b : Parts) (places : ℕ → ℕ) (w : World (LocalState DatumId) DatumId) (p : ℕ) (s : IsStanding (tags b) b places w) where
  less : {n : ℕ} → 0 < n + cond false 1 0 → 0 < n
  less f = omega (arith, f)

  same : (n : ℕ) → n + cond false 1 0 ≡ n
  same n = omega arith

  -- a datum goes from the stash into the store
  received : (q : ProcId) (d : DatumId) → slice_get (code_at b p) (places p) ≡ Some (Recv q d) → holds datum_tag d.0 (w.locals p).stash ≡ true →
      IsStanding (tags b) b (further places p) (record { locals = put w.locals p (worked_by (tags b) (Some (Recv q d)) (w.locals p)); lists = w.lists })
  received q d e h =
      advance (tags b) b places w p (Recv q d) (worked_by (tags b) (Some (Recv q d)) (w.locals p)) s e (ap (λ n. n + 1) (s.place p)) stores stash (λ r c. refl) (λ r. refl)
    where
      stores : (c : ℕ) → 0 < passed (gives b c) b places p + cond (d.0 == c) 1 0 → 0 < occurs datum_tag c (stored datum_tag d (w.locals p).store)
      stores c m = at (eqb_tells d.0 c) m
        where
          at : (((d.0 == c) ≡ true) × (d.0 ≡ c)) ⊎ (((d.0 == c) ≡ false) × (d.0 ≢ c)) → 0 < passed (gives b c) b places p + cond (d.0 == c) 1 0 → 0 < occurs datum_tag c (stored datum_tag d (w.locals p).store)
          at (inl i) m = stored_new datum_tag c d (w.locals p).store i.1
          at (inr i) m = stored_kept datum_tag c d (w.locals p).store (s.stores p c (less (subst (λ t. 0 < passed (gives b c) b places p + cond t 1 0) i.0 m)))

      stash : (c : ℕ) → occurs datum_tag c (without datum_tag d.0 (w.locals p).stash) + cond (d.0 == c) 1 0 ≡ occurs datum_tag c (w.locals p).stash
      stash c = at (eqb_tells d.0 c)
        where
          at : (((d.0 == c) ≡ true) × (d.0 ≡ c)) ⊎ (((d.0 == c) ≡ false) × (d.0 ≢ c)) → occurs datum_tag c (without datum_tag d.0 (w.locals p).stash) + cond (d.0 == c) 1 0 ≡ occurs datum_tag c (w.locals p).stash
          at (inl i) = rw i.0 (subst (λ n. occurs datum_tag n (without datum_tag d.0 (w.locals p).stash) + 1 ≡ occurs datum_tag n (w.locals p).stash) i.1 (without_same datum_tag d.0 (w.locals p).stash (some_holds datum_tag d.0 (w.locals p).stash h)))
          at (inr i) = rw i.0 (let f = without_other datum_tag d.0 c (w.locals p).stash i.1 in omega (arith, f))

  -- what a task writes goes into the store
  executed : (t : TaskId) → slice_get (code_at b p) (places p) ≡ Some (Exec t) →
      IsStanding (tags b) b (further places p) (record { locals = put w.locals p (worked_by (tags b) (Some (Exec t)) (w.locals p)); lists = w.lists })
  executed t e =
      advance (tags b) b places w p (Exec t) (worked_by (tags b) (Some (Exec t)) (w.locals p)) s e (ap (λ n. n + 1) (s.place p)) stores (λ c. same _) (λ r c. refl) (λ r. refl)
    where
      stores : (c : ℕ) → 0 < passed (gives b c) b places p + cond (gives b c (Exec t)) 1 0 → 0 < occurs datum_tag c (all_stored datum_tag (task_at b t.0).writes (w.locals p).store)
      stores c m = at (list_any (λ (u : DatumId). u.0 == c) (task_at b t.0).writes) refl m
        where
          at : (f : Bool) → list_any (λ (u : DatumId). u.0 == c) (task_at b t.0).writes ≡ f → 0 < passed (gives b c) b places p + cond f 1 0 → 0 < occurs datum_tag c (all_stored datum_tag (task_at b t.0).writes (w.locals p).store)
          at true g n = all_stored_new datum_tag c (task_at b t.0).writes (w.locals p).store (some_holds datum_tag c (task_at b t.0).writes g)
          at false g n = all_stored_kept datum_tag c (task_at b t.0).writes (w.locals p).store (s.stores p c (less n))

  -- where p stands, its instruction is the one at its place
  instr_here : (it : Option Instr) → slice_get (code_at b p) (places p) ≡ it → instr_at b p (w.locals p) ≡ it
  instr_here it e = ap (slice_get (code_at b p)) (s.place p) ∙ e

  worked : (it : Option Instr) → instr_at b p (w.locals p) ≡ it → state_after (tag_rules b) w p Internal ≡ record { locals = put w.locals p (worked_by (tags b) it (w.locals p)); lists = w.lists }
  worked it e = ap with_instr e
    where
      with_instr : Option Instr → World (LocalState DatumId) DatumId
      with_instr i = record { locals = put w.locals p (worked_by (tags b) i (w.locals p)); lists = w.lists }

  taken : (q : ℕ) (x : DatumId) (xs : List DatumId) → w.lists q p ≡ x ∷ xs →
      state_after (tag_rules b) w p (Take q) ≡ record { locals = put w.locals p (stashed (w.locals p) x); lists = changed w.lists q p rest_of }
  taken q x xs e = ap with_list e
    where
      with_list : List DatumId → World (LocalState DatumId) DatumId
      with_list ys = record { locals = put w.locals p (local_taken ((tag_rules b).taken p) (w.locals p) ys); lists = changed w.lists q p rest_of }

  sent : (to : ProcId) (d : DatumId) → instr_at b p (w.locals p) ≡ Some (Send to d) →
      state_after (tag_rules b) w p (SendTo to.0) ≡ record { locals = put w.locals p (advanced (w.locals p)); lists = changed w.lists p to.0 (λ xs. xs ++ d ∷ []) }
  sent to d e = ap with_instr e
    where
      with_instr : Option Instr → World (LocalState DatumId) DatumId
      with_instr it = record { locals = put w.locals p (advanced (w.locals p)); lists = changed w.lists p to.0 (λ xs. xs ++ datum_by it ∷ []) }

  -- a step at this action leads to a state in which each parcel is somewhere
  by : IsWellFormed b → p < processor_count b → (it : Option Instr) → slice_get (code_at b p) (places p) ≡ it → (a : Action) → action_by (tags b) b it (w.locals p) ≡ a → IsPossible (tag_rules b) w p a → IsConserved b (state_after (tag_rules b) w p a)
  by well l None e a f h = absurd (subst (IsPossible (tag_rules b) w p) (sym f) h)
  by well l (Some (Recv q d)) e a f h = at (holds datum_tag d.0 (w.locals p).stash) refl f
    where
      front : (xs : List DatumId) → w.lists q.0 p ≡ xs → 0 < length xs → IsConserved b (state_after (tag_rules b) w p (Take q.0))
      front [] g m = absurd (omega (arith, m))
      front (x ∷ xs) g m = record {
        places = places;
        stands = subst (IsStanding (tags b) b places) (sym (taken q.0 x xs g)) (taken_over (tags b) b places w p q.0 x xs s (well.instrs p (places p) (Recv q d) e).0.0 g);
      }

      at : (c : Bool) → holds datum_tag d.0 (w.locals p).stash ≡ c → cond c Internal (Take q.0) ≡ a → IsConserved b (state_after (tag_rules b) w p a)
      at true g k = subst (λ x. IsConserved b (state_after (tag_rules b) w p x)) k (record {
        places = further places p;
        stands = subst (IsStanding (tags b) b (further places p)) (sym (worked (Some (Recv q d)) (instr_here _ e))) (received q d e g);
      })
      at false g k = subst (λ x. IsConserved b (state_after (tag_rules b) w p x)) k (front (w.lists q.0 p) refl (subst (IsPossible (tag_rules b) w p) (sym k) h))
  by well l (Some (Exec t)) e a f h = at (list_all (λ d. holds datum_tag d.0 (w.locals p).store) (task_at b t.0).reads) f
    where
      at : (c : Bool) → cond c Internal Lacks ≡ a → IsConserved b (state_after (tag_rules b) w p a)
      at true k = subst (λ x. IsConserved b (state_after (tag_rules b) w p x)) k (record {
        places = further places p;
        stands = subst (IsStanding (tags b) b (further places p)) (sym (worked (Some (Exec t)) (instr_here _ e))) (executed t e);
      })
      at false k = absurd (subst (IsPossible (tag_rules b) w p) (sym k) h)
  by well l (Some (Send to d)) e a f h = at (holds datum_tag d.0 (w.locals p).store) f
    where
      at : (c : Bool) → cond c (SendTo to.0) Lacks ≡ a → IsConserved b (state_after (tag_rules b) w p a)
      at true k = subst (λ x. IsConserved b (state_after (tag_rules b) w p x)) k (record {
        places = further places p;
        stands = subst (IsStanding (tags b) b (further places p)) (sym (sent to d (instr_here _ e))) (send (tags b) b places w p to d d s l e refl);
      })
      at false k = absurd (subst (IsPossible (tag_rules b) w p) (sym k) h)

  step : IsWellFormed b → IsEnabled (tag_rules b) w p → IsConserved b (next (tag_rules b) w p)
  step well h =
      by well h.actor (slice_get (code_at b p) (places p)) refl (action_at (tag_rules b) w p)
      (ap (λ n. action_by (tags b) b (slice_get (code_at b p) n) (w.locals p)) (sym (s.place p))) h.possible

run_conserved : (b : Parts) (w : World (LocalState DatumId) DatumId) (run : List ℕ) → IsWellFormed b → IsRun (tag_rules b) w run → IsConserved b w → IsConserved b (end_of (tag_rules b) w run)
run_conserved b w [] well r c = c
run_conserved b w (p ∷ run) well r c = run_conserved b (next (tag_rules b) w p) run well r.1 (step b c.places w p c.stands well r.0)

no_sum : (n : ℕ) → sum_below n (λ q. 0) ≡ 0
no_sum zero = refl
no_sum (suc n) = let e = no_sum n in omega arith

-- at the start nothing was sent
start_conserved : (b : Parts) → IsConserved b start
start_conserved b = record {
  places = at_start;
  stands = record {
    place = λ p. refl;
    stores = λ p d l. absurd (none (gives b d) (code_at b p) l);
    parcels = λ p d. zeros p d;
    senders = λ q p d. omega arith;
    lengths = λ q p. omega arith;
  };
}
  where
    none : (f : Instr → Bool) (code : List Instr) → 0 < tally f (take 0 code) → ⊥
    none f [] l = omega (arith, l)
    none f (x ∷ code) l = omega (arith, l)

    no_tally : (f : Instr → Bool) (code : List Instr) → tally f (take 0 code) ≡ 0
    no_tally f [] = refl
    no_tally f (x ∷ code) = refl

    no_tallies : (n p d : ℕ) → sum_below n (λ q. tally (is_send p d) (take 0 (code_at b q))) ≡ 0
    no_tallies zero p d = refl
    no_tallies (suc n) p d = let e = no_tallies n p d in let f = no_tally (is_send p d) (code_at b n) in omega arith

    zeros : (p d : ℕ) → 0 + sum_below (processor_count b) (λ q. 0) + passed (is_receive d) b at_start p ≡ sum_below (processor_count b) (λ q. passed (is_send p d) b at_start q)
    zeros p d =
        let e = no_sum (processor_count b) in
        let f = no_tally (is_receive d) (code_at b p) in
        let g = no_tallies (processor_count b) p d in
        omega arith

pub conserved : (b : Parts) (run : List ℕ) → IsWellFormed b → IsRun (tag_rules b) start run → IsConserved b (end_of (tag_rules b) start run)
conserved b run well r = run_conserved b start run well r (start_conserved b)
