-- Each step of a processor is the next one of its local run.
use Rattle.std.proofs.Common.{◌≡◌, ◌≢◌, ℕ, zero, suc, ◌<◌, ◌==◌, Bool, true, false, cond, List, [], ◌∷◌, length, set, Some, slice_get, ◌⊎◌, inl, inr, refl, sym, ◌∙◌, ap, subst, arith}
use Rattle.std.specs.List.{list_all}
use Rattle.std.proofs.lemmas.Bool.Decides.{eqb_tells}
use Rattle.std.proofs.lemmas.List.{get_or-set_same, get_or-set_other}
use Rattle.std.proofs.lemmas.Option.{slice_get_within}
use Rattle.pyr_num.specs.declared.ids.DatumId.{DatumId}
use Rattle.pyr_num.specs.declared.ids.ProcId.{ProcId}
use Rattle.pyr_num.specs.declared.ids.TaskId.{TaskId}
use Rattle.pyr_num.specs.declared.parcel.Parcel.{Parcel}
use Rattle.pyr_net.specs.Net.{put, rest_of, local_taken}
use Rattle.pyr_net.specs.Alone.{CanAlone, alone_by, alone_next, local_sent}
use Rattle.pyr_net.specs.declared.action.Action.{Action}
use Rattle.pyr_net.specs.declared.action.Action.TheVariants.{Internal, Send as SendTo, Take, Lacks}
use Rattle.pyr_net.proofs.Update.{put_same, put_other}
use Rattle.pyr_bundle.specs.Parts.{Parts, processor_count, code_at, task_at}
use Rattle.pyr_bundle.specs.WellFormed.{StandsAt, Fits}
use Rattle.pyr_bundle.proofs.WellFormedLemmas.{well_formed}
use Rattle.pyr_num.specs.declared.limits.TheConstants.Limits.{INSTRUCTIONS}
use Rattle.pyr_bundle.specs.declared.instr.Instr.{Instr}
use Rattle.pyr_bundle.specs.declared.instr.Instr.TheVariants.{Recv, Exec, Send}
use Rattle.pyr_machine.specs.Machine.{LocalState, holds, action_by, worked_by, datum_by, advanced, stashed}
use Rattle.pyr_machine.specs.Parcels.{parcel_tag, parcel_of, parcels, state_rules}
use Rattle.pyr_machine.specs.Counts.{all_sends}
use Rattle.pyr_machine.specs.Local.{LeadsTo, GoesOnLocally}
use Rattle.pyr_machine.proofs.Leads.{goes_locally, reaches_end}
use Rattle.pyr_wire.specs.End.{End, passed_on}
use Rattle.pyr_ends.specs.Ends.{idle, end_for}
use Rattle.pyr_stash.specs.Held.{parcel_in}
use Rattle.pyr_proc.specs.Fitted.{IsWhole, AllWhole}
use Rattle.pyr_proc.specs.Standing.{Standing}
use Rattle.pyr_proc.specs.Running.{next_at, moved_out, CanTake, TakesFrom, Remains, alone, IsRunning, GoesOn}
use Rattle.pyr_proc.proofs.Remaining.{next_left, more_left, passed_left}

-- the end for a peer, after a change of one
end-set : (es : List End) (p q : ℕ) (e : End) → p < length es → ((q ≡ p) × (end_for (set es p e) q ≡ e)) ⊎ ((q ≢ p) × (end_for (set es p e) q ≡ end_for es q))
end-set es p q e l = at (eqb_tells q p)
  where
    at : (((q == p) ≡ true) × (q ≡ p)) ⊎ (((q == p) ≡ false) × (q ≢ p)) → ((q ≡ p) × (end_for (set es p e) q ≡ e)) ⊎ ((q ≢ p) × (end_for (set es p e) q ≡ end_for es q))
    at (inl i) = inl (i.1, ap (λ k. end_for (set es p e) k) i.1 ∙ get_or-set_same es p e idle l)
    at (inr i) = inr (i.1, get_or-set_other es p q e idle i.1)

-- the first of a list that isn't empty
record Front (xs : List Parcel) : Type 0 where
  first : Parcel
  rest : List Parcel
  is : xs ≡ first ∷ rest

front : (xs : List Parcel) → 0 < length xs → Front xs
front [] l = absurd (omega arith)
front (x ∷ xs) l = record { first = x; rest = xs; is = refl }

-- one step of what is left
pub record Step (frame : ℕ) (s : Standing) (r : IsRunning frame s) : Type 0 where
  pub left : ℕ
  pub is : r.left ≡ suc left
  pub goes : GoesOnLocally (parcels s.bundle frame) s.bundle (parcel_of s.bundle frame r.order) s.number left (alone s.local r.inbox) r.last

pub step_of : (frame : ℕ) (s : Standing) (r : IsRunning frame s) → s.local.place < length (code_at s.bundle s.number) → Step frame s r
step_of frame s r low = at r.left refl r.leads
  where
    at : (n : ℕ) → r.left ≡ n → LeadsTo (parcels s.bundle frame) s.bundle (parcel_of s.bundle frame r.order) s.number n (alone s.local r.inbox) r.last → Step frame s r
    at zero e h = absurd (let l : 0 < 0 = reaches_end (parcels s.bundle frame) s.bundle (parcel_of s.bundle frame r.order) s.number 0 (alone s.local r.inbox) r.last h r.is_last.local.place low in omega arith)
    at (suc n) e h = record { left = n; is = e; goes = goes_locally (parcels s.bundle frame) s.bundle (parcel_of s.bundle frame r.order) s.number n (alone s.local r.inbox) r.last h }

-- what is left at a tail, one step told
tail_now : (frame : ℕ) (s : Standing) (r : IsRunning frame s) (st : Step frame s r) (q : ℕ) → q < processor_count s.bundle →
    Remains s.bundle s.frames frame s.number q (local_sent (state_rules s.bundle frame) s.number (suc st.left) (alone s.local r.inbox) q) (end_for s.tails q)
tail_now frame s r st q l = subst (λ n. Remains s.bundle s.frames frame s.number q (local_sent (state_rules s.bundle frame) s.number n (alone s.local r.inbox) q) (end_for s.tails q)) st.is (r.tails q l)

-- and where the step sends nothing there
tail_kept : (frame : ℕ) (s : Standing) (r : IsRunning frame s) (st : Step frame s r) (q : ℕ) → q < processor_count s.bundle → (state_rules s.bundle frame).action s.number s.local ≢ SendTo q →
    Remains s.bundle s.frames frame s.number q (local_sent (state_rules s.bundle frame) s.number st.left (alone_next (state_rules s.bundle frame) s.number (alone s.local r.inbox)) q) (end_for s.tails q)
tail_kept frame s r st q l ne = subst (λ xs. Remains s.bundle s.frames frame s.number q xs (end_for s.tails q)) (st.goes.keeps q ne) (tail_now frame s r st q l)

-- the processor after a step that leads here
goes_to : (frame : ℕ) (s : Standing) (r : IsRunning frame s) (st : Step frame s r) (local : LocalState Parcel) (inbox : ℕ → List Parcel) (heads tails : List End) →
    alone_next (state_rules s.bundle frame) s.number (alone s.local r.inbox) ≡ alone local inbox →
    ((q : ℕ) → q < processor_count s.bundle → Remains s.bundle s.frames frame q s.number (inbox q) (end_for heads q)) →
    ((q : ℕ) → q < processor_count s.bundle → Remains s.bundle s.frames frame s.number q (local_sent (state_rules s.bundle frame) s.number st.left (alone_next (state_rules s.bundle frame) s.number (alone s.local r.inbox)) q) (end_for tails q)) →
    ((q : ℕ) → q < processor_count s.bundle → AllWhole s.bundle (inbox q)) →
    IsRunning frame (record s { local = local; heads = heads; tails = tails })
goes_to frame s r st local inbox heads tails e at_heads at_tails whole = record {
  is_bundle = r.is_bundle;
  known = r.known;
  order = r.order;
  left = st.left;
  inbox = inbox;
  last = r.last;
  leads = subst (λ a. LeadsTo (parcels s.bundle frame) s.bundle (parcel_of s.bundle frame r.order) s.number st.left a r.last) e st.goes.next;
  is_last = r.is_last;
  heads = at_heads;
  tails = λ q l. subst (λ a. Remains s.bundle s.frames frame s.number q (local_sent (state_rules s.bundle frame) s.number st.left a q) (end_for tails q)) e (at_tails q l);
  whole = whole;
}

-- an internal step
internal_on : (frame : ℕ) (s : Standing) (r : IsRunning frame s) (st : Step frame s r) → (state_rules s.bundle frame).action s.number s.local ≡ Internal →
    IsRunning frame (record s { local = (state_rules s.bundle frame).worked s.number s.local })
internal_on frame s r st act =
    goes_to frame s r st ((state_rules s.bundle frame).worked s.number s.local) r.inbox s.heads s.tails
    (ap (λ k. alone_by (state_rules s.bundle frame) s.number k (alone s.local r.inbox)) act)
    r.heads
    (λ q l. tail_kept frame s r st q l (λ e. let f : Internal ≡ SendTo q = sym act ∙ e in absurd (cc)))
    r.whole

-- a send
sent_on : (frame : ℕ) (s : Standing) (r : IsRunning frame s) (st : Step frame s r) (to : ℕ) → to < length s.tails → to < processor_count s.bundle → (state_rules s.bundle frame).action s.number s.local ≡ SendTo to →
    IsRunning frame (record s { local = advanced s.local; tails = set s.tails to (passed_on (end_for s.tails to)) })
sent_on frame s r st to low known act =
    goes_to frame s r st (advanced s.local) r.inbox s.heads (set s.tails to (passed_on (end_for s.tails to)))
    (ap (λ k. alone_by (state_rules s.bundle frame) s.number k (alone s.local r.inbox)) act)
    r.heads tails r.whole
  where
    after : ℕ → List Parcel
    after q = local_sent (state_rules s.bundle frame) s.number st.left (alone_next (state_rules s.bundle frame) s.number (alone s.local r.inbox)) q

    tails : (q : ℕ) → q < processor_count s.bundle →
        Remains s.bundle s.frames frame s.number q (local_sent (state_rules s.bundle frame) s.number st.left (alone_next (state_rules s.bundle frame) s.number (alone s.local r.inbox)) q) (end_for (set s.tails to (passed_on (end_for s.tails to))) q)
    tails q l = at (end-set s.tails to q (passed_on (end_for s.tails to)) low)
      where
        here : Remains s.bundle s.frames frame s.number to (local_sent (state_rules s.bundle frame) s.number st.left (alone_next (state_rules s.bundle frame) s.number (alone s.local r.inbox)) to) (passed_on (end_for s.tails to))
        here = passed_left s.bundle s.frames frame s.number to ((state_rules s.bundle frame).parcel s.number s.local) _ (end_for s.tails to)
            (subst (λ xs. Remains s.bundle s.frames frame s.number to xs (end_for s.tails to)) (st.goes.sends to act) (tail_now frame s r st to known))

        at : ((q ≡ to) × (end_for (set s.tails to (passed_on (end_for s.tails to))) q ≡ passed_on (end_for s.tails to))) ⊎ ((q ≢ to) × (end_for (set s.tails to (passed_on (end_for s.tails to))) q ≡ end_for s.tails q)) →
            Remains s.bundle s.frames frame s.number q (local_sent (state_rules s.bundle frame) s.number st.left (alone_next (state_rules s.bundle frame) s.number (alone s.local r.inbox)) q) (end_for (set s.tails to (passed_on (end_for s.tails to))) q)
        at (inl i) =
            subst (λ e. Remains s.bundle s.frames frame s.number q (local_sent (state_rules s.bundle frame) s.number st.left (alone_next (state_rules s.bundle frame) s.number (alone s.local r.inbox)) q) e) (sym i.1)
            (subst (λ k. Remains s.bundle s.frames frame s.number k (local_sent (state_rules s.bundle frame) s.number st.left (alone_next (state_rules s.bundle frame) s.number (alone s.local r.inbox)) k) (passed_on (end_for s.tails to))) (sym i.0) here)
        at (inr i) =
            subst (λ e. Remains s.bundle s.frames frame s.number q (local_sent (state_rules s.bundle frame) s.number st.left (alone_next (state_rules s.bundle frame) s.number (alone s.local r.inbox)) q) e) (sym i.1)
            (tail_kept frame s r st q l (λ e. let f : SendTo to ≡ SendTo q = sym act ∙ e in i.0 (let g : q ≡ to = cc in g)))

-- a take
taken_on : (frame : ℕ) (s : Standing) (r : IsRunning frame s) (st : Step frame s r) (from : ℕ) (x : Parcel) (xs : List Parcel) → from < length s.heads → from < processor_count s.bundle → (state_rules s.bundle frame).action s.number s.local ≡ Take from →
    r.inbox from ≡ x ∷ xs → IsRunning frame (record s { local = stashed s.local x; heads = set s.heads from (passed_on (end_for s.heads from)) })
taken_on frame s r st from x xs low known act e =
    goes_to frame s r st (stashed s.local x) (put r.inbox from xs) (set s.heads from (passed_on (end_for s.heads from))) s.tails
    (ap (λ k. alone_by (state_rules s.bundle frame) s.number k (alone s.local r.inbox)) act
    ∙ (λ i. alone (local_taken ((state_rules s.bundle frame).taken s.number) s.local (e i)) (put r.inbox from (rest_of (e i)))))
    heads
    (λ q l. tail_kept frame s r st q l (λ f. let g : Take from ≡ SendTo q = sym act ∙ f in absurd (cc)))
    whole
  where
    heads : (q : ℕ) → q < processor_count s.bundle → Remains s.bundle s.frames frame q s.number (put r.inbox from xs q) (end_for (set s.heads from (passed_on (end_for s.heads from))) q)
    heads q l = at (end-set s.heads from q (passed_on (end_for s.heads from)) low)
      where
        here : Remains s.bundle s.frames frame from s.number (put r.inbox from xs from) (passed_on (end_for s.heads from))
        here = subst (λ ys. Remains s.bundle s.frames frame from s.number ys (passed_on (end_for s.heads from))) (sym (put_same r.inbox from xs))
            (passed_left s.bundle s.frames frame from s.number x xs (end_for s.heads from) (subst (λ ys. Remains s.bundle s.frames frame from s.number ys (end_for s.heads from)) e (r.heads from known)))

        at : ((q ≡ from) × (end_for (set s.heads from (passed_on (end_for s.heads from))) q ≡ passed_on (end_for s.heads from))) ⊎ ((q ≢ from) × (end_for (set s.heads from (passed_on (end_for s.heads from))) q ≡ end_for s.heads q)) →
            Remains s.bundle s.frames frame q s.number (put r.inbox from xs q) (end_for (set s.heads from (passed_on (end_for s.heads from))) q)
        at (inl i) =
            subst (λ f. Remains s.bundle s.frames frame q s.number (put r.inbox from xs q) f) (sym i.1)
            (subst (λ k. Remains s.bundle s.frames frame k s.number (put r.inbox from xs k) (passed_on (end_for s.heads from))) (sym i.0) here)
        at (inr i) =
            subst (λ f. Remains s.bundle s.frames frame q s.number (put r.inbox from xs q) f) (sym i.1)
            (subst (λ ys. Remains s.bundle s.frames frame q s.number ys (end_for s.heads q)) (sym (put_other r.inbox from xs q i.0)) (r.heads q l))

    whole : (q : ℕ) → q < processor_count s.bundle → AllWhole s.bundle (put r.inbox from xs q)
    whole q l = at (eqb_tells q from)
      where
        at : (((q == from) ≡ true) × (q ≡ from)) ⊎ (((q == from) ≡ false) × (q ≢ from)) → AllWhole s.bundle (put r.inbox from xs q)
        at (inl i) = subst (λ k. AllWhole s.bundle (put r.inbox from xs k)) (sym i.1) (subst (AllWhole s.bundle) (sym (put_same r.inbox from xs)) (subst (AllWhole s.bundle) e (r.whole from known)).1)
        at (inr i) = subst (AllWhole s.bundle) (sym (put_other r.inbox from xs q i.1)) (r.whole q l)

-- an end at which there is more is one of the list
end_there : (es : List End) (p : ℕ) → (end_for es p).count < length (end_for es p).whole → p < length es
end_there [] p l = absurd (omega arith)
end_there (e ∷ es) zero l = omega arith
end_there (e ∷ es) (suc p) l = let k = end_there es p l in omega arith

-- what the machine says of the processor where an instruction stands
can_at : (frame : ℕ) (s : Standing) (r : IsRunning frame s) (st : Step frame s r) (instr : Instr) → StandsAt s.bundle s.number s.local.place instr →
    CanAlone (action_by (parcels s.bundle frame) s.bundle (Some instr) s.local) (alone s.local r.inbox)
can_at frame s r st instr at = subst (λ o. CanAlone (action_by (parcels s.bundle frame) s.bundle o s.local) (alone s.local r.inbox)) at st.goes.can

act_at : (frame : ℕ) (s : Standing) (instr : Instr) (k : Action) → StandsAt s.bundle s.number s.local.place instr → action_by (parcels s.bundle frame) s.bundle (Some instr) s.local ≡ k →
    (state_rules s.bundle frame).action s.number s.local ≡ k
act_at frame s instr k at e = ap (λ o. action_by (parcels s.bundle frame) s.bundle o s.local) at ∙ e

step_at : (frame : ℕ) (s : Standing) (r : IsRunning frame s) (instr : Instr) → StandsAt s.bundle s.number s.local.place instr → Step frame s r
step_at frame s r instr at = step_of frame s r (slice_get_within (code_at s.bundle s.number) s.local.place instr at)

-- the same processor
pub goes_same : (frame : ℕ) (s : Standing) → IsRunning frame s → GoesOn frame s s
goes_same frame s r = record { bundle = refl; number = refl; frames = refl; running = r }

pub goes_further : (frame : ℕ) (s t u : Standing) → GoesOn frame s t → GoesOn frame t u → GoesOn frame s u
goes_further frame s t u g h = record { bundle = h.bundle ∙ g.bundle; number = h.number ∙ g.number; frames = h.frames ∙ g.frames; running = h.running }

-- an instruction that stands there still does
pub stands_on : (frame : ℕ) (s t : Standing) (instr : Instr) → GoesOn frame s t → t.local.place ≡ s.local.place → StandsAt s.bundle s.number s.local.place instr → StandsAt t.bundle t.number t.local.place instr
stands_on frame s t instr g e at =
    ap (λ (b : Parts). slice_get (code_at b t.number) t.local.place) g.bundle
    ∙ ap (λ p. slice_get (code_at s.bundle p) t.local.place) g.number
    ∙ ap (λ i. slice_get (code_at s.bundle s.number) i) e
    ∙ at

-- what its instruction names exists
pub named : (frame : ℕ) (s : Standing) (instr : Instr) → IsRunning frame s → StandsAt s.bundle s.number s.local.place instr → Fits s.bundle s.number instr
named frame s instr r at = (well_formed s.bundle r.is_bundle).instrs s.number s.local.place instr at

pub is_short : (frame : ℕ) (s : Standing) (instr : Instr) → IsRunning frame s → StandsAt s.bundle s.number s.local.place instr → s.local.place < INSTRUCTIONS
is_short frame s instr r at =
    let low = slice_get_within (code_at s.bundle s.number) s.local.place instr at in
    let short = (well_formed s.bundle r.is_bundle).short s.number in
    omega arith

-- executing a task: its reads are there
pub may_exec : (frame : ℕ) (s : Standing) (t : TaskId) → IsRunning frame s → StandsAt s.bundle s.number s.local.place (Exec t) → list_all (λ (d : DatumId). holds parcel_tag d.0 s.local.store) (task_at s.bundle t.0).reads ≡ true
may_exec frame s t r at = tell (list_all (λ (d : DatumId). holds parcel_tag d.0 s.local.store) (task_at s.bundle t.0).reads) (can_at frame s r (step_at frame s r (Exec t) at) (Exec t) at)
  where
    tell : (c : Bool) → CanAlone (cond c Internal Lacks) (alone s.local r.inbox) → c ≡ true
    tell true can = refl
    tell false can = absurd can

pub exec_goes : (frame : ℕ) (s u : Standing) (t : TaskId) → IsRunning frame s → StandsAt s.bundle s.number s.local.place (Exec t) →
    u ≡ record s { local = worked_by (parcels s.bundle frame) (Some (Exec t)) s.local } → GoesOn frame s u
exec_goes frame s u t r at e = record {
  bundle = ap (λ (v : Standing). v.bundle) e;
  number = ap (λ (v : Standing). v.number) e;
  frames = ap (λ (v : Standing). v.frames) e;
  running = subst (IsRunning frame) (sym e) (subst (λ o. IsRunning frame (record s { local = worked_by (parcels s.bundle frame) o s.local })) at (internal_on frame s r (step_at frame s r (Exec t) at)
      (act_at frame s (Exec t) Internal at (ap (λ c. cond c Internal Lacks) (may_exec frame s t r at)))));
}

-- sending a datum: it is there, and its parcel is the next one of the wire
pub record MaySend (s : Standing) (to : ProcId) (d : DatumId) : Type 0 where
  pub held : holds parcel_tag d.0 s.local.store ≡ true
  pub next : next_at (end_for s.tails to.0) ≡ Some (parcel_in d s.local.store)
  pub there : to.0 < length s.tails
  pub acts : (frame : ℕ) → (state_rules s.bundle frame).action s.number s.local ≡ SendTo to.0

pub may_send : (frame : ℕ) (s : Standing) (to : ProcId) (d : DatumId) → IsRunning frame s → StandsAt s.bundle s.number s.local.place (Send to d) → MaySend s to d
may_send frame s to d r at = record {
  held = held;
  next = next_left s.bundle s.frames frame s.number to.0 (parcel_in d s.local.store) _ (end_for s.tails to.0) rest;
  there = end_there s.tails to.0 (more_left s.bundle s.frames frame s.number to.0 (parcel_in d s.local.store) _ (end_for s.tails to.0) rest);
  acts = acts;
}
  where
    st : Step frame s r
    st = step_at frame s r (Send to d) at

    tell : (c : Bool) → CanAlone (cond c (SendTo to.0) Lacks) (alone s.local r.inbox) → c ≡ true
    tell true can = refl
    tell false can = absurd can

    held : holds parcel_tag d.0 s.local.store ≡ true
    held = tell (holds parcel_tag d.0 s.local.store) (can_at frame s r st (Send to d) at)

    acts : (f : ℕ) → (state_rules s.bundle f).action s.number s.local ≡ SendTo to.0
    acts f = act_at f s (Send to d) (SendTo to.0) at (ap (λ c. cond c (SendTo to.0) Lacks) held)

    parcel : (state_rules s.bundle frame).parcel s.number s.local ≡ parcel_in d s.local.store
    parcel = ap (λ o. (parcels s.bundle frame).pick (datum_by o) s.local.store) at

    rest : Remains s.bundle s.frames frame s.number to.0 (parcel_in d s.local.store ∷ local_sent (state_rules s.bundle frame) s.number st.left (alone_next (state_rules s.bundle frame) s.number (alone s.local r.inbox)) to.0) (end_for s.tails to.0)
    rest = subst (λ xs. Remains s.bundle s.frames frame s.number to.0 xs (end_for s.tails to.0))
        (st.goes.sends to.0 (acts frame) ∙ ap (λ x. x ∷ local_sent (state_rules s.bundle frame) s.number st.left (alone_next (state_rules s.bundle frame) s.number (alone s.local r.inbox)) to.0) parcel)
        (tail_now frame s r st to.0 (named frame s (Send to d) r at).0.0)

pub send_goes : (frame : ℕ) (s u : Standing) (to : ProcId) (d : DatumId) → IsRunning frame s → StandsAt s.bundle s.number s.local.place (Send to d) →
    u ≡ record s { local = advanced s.local; tails = set s.tails to.0 (passed_on (end_for s.tails to.0)) } → GoesOn frame s u
send_goes frame s u to d r at e =
    let may = may_send frame s to d r at in
    record {
      bundle = ap (λ (v : Standing). v.bundle) e;
      number = ap (λ (v : Standing). v.number) e;
      frames = ap (λ (v : Standing). v.frames) e;
      running = subst (IsRunning frame) (sym e) (sent_on frame s r (step_at frame s r (Send to d) at) to.0 may.there (named frame s (Send to d) r at).0.0 (may.acts frame));
    }

-- receiving a datum that is in the stash
pub move_goes : (frame : ℕ) (s u : Standing) (from : ProcId) (d : DatumId) → IsRunning frame s → StandsAt s.bundle s.number s.local.place (Recv from d) → holds parcel_tag d.0 s.local.stash ≡ true →
    u ≡ record s { local = moved_out d s.local } → GoesOn frame s u
move_goes frame s u from d r at here e = record {
  bundle = ap (λ (v : Standing). v.bundle) e;
  number = ap (λ (v : Standing). v.number) e;
  frames = ap (λ (v : Standing). v.frames) e;
  running = subst (IsRunning frame) (sym e) (subst (λ o. IsRunning frame (record s { local = worked_by (parcels s.bundle frame) o s.local })) at (internal_on frame s r (step_at frame s r (Recv from d) at)
      (act_at frame s (Recv from d) Internal at (ap (λ c. cond c Internal (Take from.0)) here))));
}

-- taking a parcel in: one is to come, there is room for it, and none of its tag is there
pub record MayTake (s : Standing) (from : ProcId) : Type 0 where
  pub more : (end_for s.heads from.0).count < length (end_for s.heads from.0).whole
  pub room : length s.local.stash < all_sends s.bundle s.number
  pub can : CanTake s from.0

pub may_take : (frame : ℕ) (s : Standing) (from : ProcId) (d : DatumId) → IsRunning frame s → StandsAt s.bundle s.number s.local.place (Recv from d) → holds parcel_tag d.0 s.local.stash ≡ false → MayTake s from
may_take frame s from d r at none = record {
  more = more_left s.bundle s.frames frame from.0 s.number f.first f.rest (end_for s.heads from.0) rest;
  room = st.goes.here.room from.0 known some;
  can = λ x next.
      let same : x ≡ f.first = (let g : Some x ≡ Some f.first = sym next ∙ next_left s.bundle s.frames frame from.0 s.number f.first f.rest (end_for s.heads from.0) rest in cc) in (
        subst (IsWhole s.bundle) (sym same) (subst (AllWhole s.bundle) f.is (r.whole from.0 known)).0,
        subst (λ (y : Parcel). holds parcel_tag y.tag.0 s.local.stash ≡ false) (sym same) (st.goes.here.fresh from.0 f.first f.rest known f.is),
      );
}
  where
    st : Step frame s r
    st = step_at frame s r (Recv from d) at

    known : from.0 < processor_count s.bundle
    known = (named frame s (Recv from d) r at).0.0

    some : 0 < length (r.inbox from.0)
    some = subst (λ c. CanAlone (cond c Internal (Take from.0)) (alone s.local r.inbox)) none (can_at frame s r st (Recv from d) at)

    f : Front (r.inbox from.0)
    f = front (r.inbox from.0) some

    rest : Remains s.bundle s.frames frame from.0 s.number (f.first ∷ f.rest) (end_for s.heads from.0)
    rest = subst (λ xs. Remains s.bundle s.frames frame from.0 s.number xs (end_for s.heads from.0)) f.is (r.heads from.0 known)

pub take_goes : (frame : ℕ) (s u : Standing) (from : ProcId) (d : DatumId) → IsRunning frame s → StandsAt s.bundle s.number s.local.place (Recv from d) → holds parcel_tag d.0 s.local.stash ≡ false →
    TakesFrom from.0 s u → GoesOn frame s u
take_goes frame s u from d r at none t = record {
  bundle = ap (λ (v : Standing). v.bundle) t.is;
  number = ap (λ (v : Standing). v.number) t.is;
  frames = ap (λ (v : Standing). v.frames) t.is;
  running = subst (IsRunning frame) (sym t.is) running;
}
  where
    st : Step frame s r
    st = step_at frame s r (Recv from d) at

    known : from.0 < processor_count s.bundle
    known = (named frame s (Recv from d) r at).0.0

    f : Front (r.inbox from.0)
    f = front (r.inbox from.0) (subst (λ c. CanAlone (cond c Internal (Take from.0)) (alone s.local r.inbox)) none (can_at frame s r st (Recv from d) at))

    rest : Remains s.bundle s.frames frame from.0 s.number (f.first ∷ f.rest) (end_for s.heads from.0)
    rest = subst (λ xs. Remains s.bundle s.frames frame from.0 s.number xs (end_for s.heads from.0)) f.is (r.heads from.0 known)

    same : f.first ≡ t.parcel
    same = let g : Some f.first ≡ Some t.parcel = sym (next_left s.bundle s.frames frame from.0 s.number f.first f.rest (end_for s.heads from.0) rest) ∙ t.offered in cc

    there : from.0 < length s.heads
    there = end_there s.heads from.0 (more_left s.bundle s.frames frame from.0 s.number f.first f.rest (end_for s.heads from.0) rest)

    running : IsRunning frame (record s { local = stashed s.local t.parcel; heads = set s.heads from.0 (passed_on (end_for s.heads from.0)) })
    running = taken_on frame s r st from.0 t.parcel f.rest there known (act_at frame s (Recv from d) (Take from.0) at (ap (λ c. cond c Internal (Take from.0)) none)) (f.is ∙ ap (λ x. x ∷ f.rest) same)

-- a take leaves the place
pub take_place : (peer : ℕ) (s u : Standing) → TakesFrom peer s u → u.local.place ≡ s.local.place
take_place peer s u t = ap (λ (v : Standing). v.local.place) t.is
