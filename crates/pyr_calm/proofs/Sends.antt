-- What is left to send, along a run of a bundle.
use Rattle.std.proofs.Common.{◌≡◌, ◌≢◌, ℕ, zero, suc, ◌+◌, ◌<◌, ◌≤◌, ◌==◌, Bool, true, false, cond, List, [], ◌∷◌, length, length-append, add-one, drop, slice_get, Option, Some, None, ◌⊎◌, inl, inr, refl, sym, ◌∙◌, ap, subst, arith}
use Rattle.std.proofs.lemmas.Bool.{eqb-true}
use Rattle.std.proofs.lemmas.Bool.Decides.{eqb_tells}
use Rattle.std.proofs.lemmas.Option.{none-some, same_Some}
use Rattle.pyr_num.specs.declared.ids.DatumId.{DatumId}
use Rattle.pyr_net.specs.Net.{World, IsPossible, action_at, next, state_after, put, changed, appended, local_taken}
use Rattle.pyr_net.specs.Run.{IsRun, IsEnded, end_of}
use Rattle.pyr_net.specs.declared.action.Action.{Action}
use Rattle.pyr_net.specs.declared.action.Action.TheVariants.{Internal, Send as SendTo, Take, Ended, Lacks}
use Rattle.pyr_net.proofs.Update.{EqualOrNot, put_other, changed_same}
use Rattle.pyr_bundle.specs.Parts.{Parts, code_at, processor_count}
use Rattle.pyr_bundle.specs.WellFormed.{IsWellFormed}
use Rattle.pyr_bundle.specs.declared.instr.Instr.{Instr}
use Rattle.pyr_bundle.specs.declared.instr.Instr.TheVariants.{Recv, Exec, Send}
use Rattle.pyr_machine.specs.Machine.{LocalState, Kind, machine, start, instr_at, worked_by, advanced, capacity_of}
use Rattle.pyr_machine.specs.Good.{HasCompleteRun}
use Rattle.pyr_machine.specs.Counts.{sends_to, coming}
use Rattle.pyr_machine.proofs.Demand.{send_instr, taken_place, coming_by}
use Rattle.pyr_machine.proofs.Traffic.{past}
use Rattle.pyr_calm.specs.Tracked.{one_if}
use Rattle.pyr_calm.proofs.Changes.{put_at}

-- whether an instruction sends to q
abbrev is_to : ℕ → Instr → Bool
is_to q (Recv from d) = false
is_to q (Exec t) = false
is_to q (Send to d) = to.0 == q

sends_first : (q : ℕ) (x : Instr) (code : List Instr) →
    sends_to q (x ∷ code) ≡ one_if (is_to q x) + sends_to q code
sends_first q (Recv from d) code = omega arith
sends_first q (Exec t) code = omega arith
sends_first q (Send to d) code = at (to.0 == q)
  where
    at : (c : Bool) → cond c (suc (sends_to q code)) (sends_to q code) ≡ one_if c + sends_to q code
    at true = omega arith
    at false = omega arith

-- what is left to send before an instruction, and after it
sends_step : (q n : ℕ) (code : List Instr) (x : Instr) → slice_get code n ≡ Some x →
    sends_to q (drop n code) ≡ one_if (is_to q x) + sends_to q (drop (suc n) code)
sends_step q n [] x e = absurd (none-some _ e)
sends_step q zero (y ∷ code) x e =
    subst (λ z. sends_to q (y ∷ code) ≡ one_if (is_to q z) + sends_to q code)
    (same_Some _ _ e) (sends_first q y code)
sends_step q (suc n) (y ∷ code) x e = sends_step q n code x e

-- what is left to send from p to q
abbrev pub left : {P : Type 0} → Parts → ℕ → ℕ → LocalState P → ℕ
left b p q l = sends_to q (drop l.place (code_at b p))

not_to : (q : ℕ) (x : Instr) → is_to q x ≡ false → (n : ℕ) (code : List Instr) →
    slice_get code n ≡ Some x → sends_to q (drop (n + 1) code) ≡ sends_to q (drop n code)
not_to q x other n code e =
    let step = sends_step q n code x e in
    let none : one_if (is_to q x) ≡ 0 = ap one_if other in
    ap (λ m. sends_to q (drop m code)) (add-one n) ∙ (omega (arith, step, none))

-- an internal step is no send
worked_left : {P : Type 0} (k : Kind P) (code : List Instr) (it : Option Instr) (l : LocalState P)
    (q : ℕ) → slice_get code l.place ≡ it →
    sends_to q (drop (worked_by k it l).place code) ≡ sends_to q (drop l.place code)
worked_left k code None l q e = refl
worked_left k code (Some (Recv from d)) l q e = not_to q (Recv from d) refl l.place code e
worked_left k code (Some (Exec t)) l q e = not_to q (Exec t) refl l.place code e
worked_left k code (Some (Send to d)) l q e = refl

-- where all have ended, nothing is left
pub ended_left : {P : Type 0} (k : Kind P) (b : Parts) (w : World (LocalState P) P) (p q : ℕ) →
    IsEnded (machine k b) w → left b p q (w.locals p) ≡ 0
ended_left k b w p q ended = ap (sends_to q) (past k b w ended p)

-- a send from p to q leaves a parcel there
record IsSent {P : Type 0} (b : Parts) (w : World (LocalState P) P) (p q : ℕ) : Type 0 where
  some : 0 < length (w.lists p q)
  room : 0 < capacity_of b p q

module _ {P : Type 0} (k : Kind P) (b : Parts) (w : World (LocalState P) P) (r p q : ℕ) where
  -- after a change of r alone
  kept_left : (new : LocalState P) → left b r q new ≡ left b r q (w.locals r) →
      left b p q (put w.locals r new p) ≡ left b p q (w.locals p)
  kept_left new e = at (put_at w.locals r new p)
    where
      at : ((p ≡ r) × (put w.locals r new p ≡ new))
          ⊎ ((p ≢ r) × (put w.locals r new p ≡ w.locals p)) →
          left b p q (put w.locals r new p) ≡ left b p q (w.locals p)
      at (inl i) =
          ap (left b p q) i.1
          ∙ subst (λ m. left b m q new ≡ left b m q (w.locals m)) (sym i.0) e
      at (inr i) = ap (left b p q) i.1

  -- a step leaves as much to send, or is a send
  left_or_sent : (a : Action) → action_at (machine k b) w r ≡ a → IsPossible (machine k b) w r a →
      (left b p q ((state_after (machine k b) w r a).locals p) ≡ left b p q (w.locals p))
      ⊎ IsSent b (state_after (machine k b) w r a) p q
  left_or_sent Internal e h =
      inl (kept_left (worked_by k (instr_at b r (w.locals r)) (w.locals r))
      (worked_left k (code_at b r) (instr_at b r (w.locals r)) (w.locals r) q refl))
  left_or_sent (SendTo to) e h = at (eqb_tells to q) (eqb_tells p r)
    where
      i : (n : _) × (d : DatumId) × (instr_at b r (w.locals r) ≡ Some (Send n d)) × (n.0 ≡ to)
      i = send_instr k b (instr_at b r (w.locals r)) (w.locals r) to e

      other : (q ≢ to) → left b p q (put w.locals r (advanced (w.locals r)) p) ≡ left b p q (w.locals p)
      other apart =
          kept_left (advanced (w.locals r))
          (not_to q (Send i.0 i.1) (not_eq (eqb_tells i.0.0 q)) (w.locals r).place (code_at b r) i.2)
        where
          not_eq : EqualOrNot i.0.0 q → (i.0.0 == q) ≡ false
          not_eq (inl j) = absurd (apart (sym j.1 ∙ i.3))
          not_eq (inr j) = j.0

      at : EqualOrNot to q → EqualOrNot p r →
          (left b p q ((state_after (machine k b) w r (SendTo to)).locals p)
          ≡ left b p q (w.locals p)) ⊎ IsSent b (state_after (machine k b) w r (SendTo to)) p q
      at (inr j) y = inl (other (λ m. j.1 (sym m)))
      at (inl j) (inr y) =
          inl (ap (left b p q) (put_other w.locals r (advanced (w.locals r)) p y.1))
      at (inl j) (inl y) =
          inr (subst (λ m. IsSent b (state_after (machine k b) w r (SendTo to)) m q) (sym y.1)
          (subst (IsSent b (state_after (machine k b) w r (SendTo to)) r) j.1 (record {
            some =
                let f = appended (machine k b) r (w.locals r) in
                let list : length (changed w.lists r to f r to) ≡ length (f (w.lists r to)) =
                ap length (changed_same w.lists r to f) in
                let long : length (f (w.lists r to)) ≡ length (w.lists r to) + 1 =
                length-append (w.lists r to) _ in
                omega (arith, list, long);
            room = let m : length (w.lists r to) < capacity_of b r to = h in omega arith;
          })))
  left_or_sent (Take from) e h =
      inl (kept_left (local_taken ((machine k b).taken r) (w.locals r) (w.lists from r))
      (ap (λ n. sends_to q (drop n (code_at b r))) (taken_place (w.lists from r) (w.locals r))))
  left_or_sent Ended e h = absurd h
  left_or_sent Lacks e h = absurd h

-- a run after which a parcel from p to q is on its way
pub record Fills {P : Type 0} (k : Kind P) (b : Parts) (w : World (LocalState P) P) (p q : ℕ)
    : Type 0 where
  pub run : List ℕ
  pub is_run : IsRun (machine k b) w run
  pub some : 0 < length ((end_of (machine k b) w run).lists p q)
  pub room : 0 < capacity_of b p q

-- where less is left to send at a run's end, something was sent
pub fills : {P : Type 0} (k : Kind P) (b : Parts) (w : World (LocalState P) P) (run : List ℕ)
    (p q : ℕ) → IsRun (machine k b) w run →
    left b p q ((end_of (machine k b) w run).locals p) < left b p q (w.locals p) →
    Fills k b w p q
fills k b w [] p q r less = absurd (omega arith)
fills {P} k b w (x ∷ run) p q r less =
    at (left_or_sent k b w x p q (action_at (machine k b) w x) refl r.0.possible)
    (fills k b (next (machine k b) w x) run p q r.1)
  where
    v : World (LocalState P) P
    v = next (machine k b) w x

    at : (left b p q (v.locals p) ≡ left b p q (w.locals p)) ⊎ IsSent b v p q →
        (left b p q ((end_of (machine k b) v run).locals p) < left b p q (v.locals p) →
        Fills k b v p q) →
        Fills k b w p q
    at (inl same) ih =
        let f = ih (omega (arith, same, less)) in
        record { run = x ∷ f.run; is_run = (r.0, f.is_run); some = f.some; room = f.room }
    at (inr s) ih = record { run = x ∷ []; is_run = (r.0, tt); some = s.some; room = s.room }

-- in a complete run each send is made
pub complete_fills : {P : Type 0} (k : Kind P) (b : Parts) (n p q : ℕ) → HasCompleteRun k b n →
    p < processor_count b → 0 < sends_to q (code_at b p) → Fills k b start p q
complete_fills k b n p q c actor some =
    fills k b start c.run p q c.is_run
    (let none = ended_left k b (end_of (machine k b) start c.run) p q
    c.done.complete.ended in
    omega (arith, none, some))

-- no run makes more parcels to come from p to q
pub coming_run : {P : Type 0} (k : Kind P) (b : Parts) (w : World (LocalState P) P) (run : List ℕ)
    (p q : ℕ) → IsRun (machine k b) w run →
    coming b (end_of (machine k b) w run) q p ≤ coming b w q p
coming_run k b w [] p q r = omega arith
coming_run k b w (x ∷ run) p q r =
    let rest = coming_run k b (next (machine k b) w x) run p q r.1 in
    let step = coming_by k b w x q p (action_at (machine k b) w x) refl r.0.possible in
    omega (arith, rest, step)

-- so a list is never longer than there are sends, and shorter where one is left
pub list_short : {P : Type 0} (k : Kind P) (b : Parts) (run : List ℕ) (p q : ℕ) →
    IsRun (machine k b) start run →
    length ((end_of (machine k b) start run).lists p q)
    + left b p q ((end_of (machine k b) start run).locals p) ≤ sends_to q (code_at b p)
list_short k b run p q r = let h = coming_run k b start run p q r in omega (arith, h)

-- where p stands at a send to q, one is left
pub send_left : {P : Type 0} (k : Kind P) (b : Parts) (w : World (LocalState P) P) (p q : ℕ) →
    action_at (machine k b) w p ≡ SendTo q → 0 < left b p q (w.locals p)
send_left k b w p q e =
    let i = send_instr k b (instr_at b p (w.locals p)) (w.locals p) q e in
    let step = sends_step q (w.locals p).place (code_at b p) (Send i.0 i.1) i.2 in
    let one : one_if (i.0.0 == q) ≡ 1 = here (eqb_tells i.0.0 q) i.3 in
    omega (arith, step, one)
  where
    here : {a c : ℕ} → EqualOrNot a c → a ≡ c → one_if (a == c) ≡ 1
    here (inl j) e = ap one_if j.0
    here (inr j) e = absurd (j.1 e)

-- there are no more sends than instructions
pub sends_few : (q : ℕ) (code : List Instr) → sends_to q code ≤ length code
sends_few q [] = omega arith
sends_few q (x ∷ code) =
    let ih = sends_few q code in
    let first = sends_first q x code in
    let one = one_if_few (is_to q x) in
    omega (arith, ih, first, one)
  where
    one_if_few : (c : Bool) → one_if c ≤ 1
    one_if_few true = omega arith
    one_if_few false = omega arith

-- where there is a send
record Found (q : ℕ) (code : List Instr) : Type 0 where
  place : ℕ
  instr : Instr
  stands : slice_get code place ≡ Some instr
  sends : is_to q instr ≡ true

found : (q : ℕ) (x : Instr) (code : List Instr) (c : Bool) → is_to q x ≡ c →
    (0 < sends_to q code → Found q code) → 0 < sends_to q (x ∷ code) → Found q (x ∷ code)
found q x code true e ih some = record { place = zero; instr = x; stands = refl; sends = e }
found q x code false e ih some =
    let first = sends_first q x code in
    let none : one_if (is_to q x) ≡ 0 = ap one_if e in
    let f = ih (omega (arith, first, none, some)) in
    record { place = suc f.place; instr = f.instr; stands = f.stands; sends = f.sends }

send_found : (q : ℕ) (code : List Instr) → 0 < sends_to q code → Found q code
send_found q [] some = absurd (omega (arith, some))
send_found q (x ∷ code) some = found q x code (is_to q x) refl (send_found q code) some

-- a send goes to a processor of the bundle
pub receiver_known : (b : Parts) (p q : ℕ) → IsWellFormed b → 0 < sends_to q (code_at b p) →
    q < processor_count b
receiver_known b p q well some =
    let f = send_found q (code_at b p) some in known f.place f.instr f.stands f.sends
  where
    known : (i : ℕ) (x : Instr) → slice_get (code_at b p) i ≡ Some x → is_to q x ≡ true →
        q < processor_count b
    known i (Recv from d) e t = absurd (cc)
    known i (Exec t) e f = absurd (cc)
    known i (Send to d) e t =
        subst (λ n. n < processor_count b) (eqb-true to.0 q t)
        (well.instrs p i (Send to d) e).0.0
