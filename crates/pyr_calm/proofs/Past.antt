-- The steps of a tracked run after which their actor knows of at most t takes are a run of the net.
use Rattle.std.proofs.Common.{◌≡◌, ◌≢◌, ℕ, ◌+◌, ◌<◌, ◌≤◌, ◌==◌, ◌&&◌, leb, cond, List, [], ◌∷◌, ◌++◌, map, length, length-append, refl, sym, ◌∙◌, ap, subst, ◌⊎◌, inl, inr, arith}
use Rattle.std.proofs.lemmas.Bool.{le-leb, lt-leb}
use Rattle.std.proofs.lemmas.Bool.Decides.{eqb_tells, leb_tells}
use Rattle.pyr_net.specs.Net.{Rules, World, IsEnabled, IsPossible, action_at, next, state_after, local_after, put, changed, rest_of, local_taken, appended}
use Rattle.pyr_net.specs.Run.{Reaches}
use Rattle.pyr_net.specs.declared.action.Action.{Action}
use Rattle.pyr_net.specs.declared.action.Action.TheVariants.{Internal, Send, Take, Ended, Lacks}
use Rattle.pyr_net.proofs.Diamond.{locals_kept}
use Rattle.pyr_net.proofs.Reach.{at_start, one_more}
use Rattle.pyr_net.proofs.Update.{EqualOrNot, changed_same, changed_other, changed_at, put_same, put_other}
use Rattle.pyr_calm.specs.Calm.{HasEmptyLists, NeverWaits}
use Rattle.pyr_calm.specs.Tracked.{Tracked, Stamped, TrackedWorld, tracked, tracked_start, plain, parcel_of, sends_into, one_if}
use Rattle.pyr_calm.proofs.Rooms.{has_room}
use Rattle.pyr_calm.proofs.Changes.{put_kept, changed_image, pair_tells, SamePairOrNot, WithinOrNot}
use Rattle.pyr_calm.proofs.Projected.{state-plain}
use Rattle.pyr_calm.proofs.Kept.{AllKnown, AllKnown-more, IsKept, knew, taken_sent}

-- The front of a list, up to the first stamp above t.

abbrev pub early : {P : Type 0} → ℕ → List (Stamped P) → List P
early t [] = []
early t (x ∷ xs) = cond (leb x.known t) (x.parcel ∷ early t xs) []

-- where all stamps are within t, that is all of it
early-length : {P : Type 0} (t : ℕ) (xs : List (Stamped P)) → AllKnown t xs →
    length (early t xs) ≡ length xs
early-length t [] h = refl
early-length t (x ∷ xs) h =
    rw (le-leb x.known t h.0) (let ih = early-length t xs h.1 in omega arith)

-- and what is sent with a stamp within t comes to it
early-append : {P : Type 0} (t : ℕ) (xs : List (Stamped P)) (x : Stamped P) → AllKnown t xs →
    x.known ≤ t → early t (xs ++ x ∷ []) ≡ early t xs ++ x.parcel ∷ []
early-append t [] x h e = rw (le-leb x.known t e) refl
early-append t (y ∷ ys) x h e =
    rw (le-leb y.known t h.0) (ap (λ zs. y.parcel ∷ zs) (early-append t ys x h.1 e))

-- what is sent with a stamp above t is cut off
early-beyond : {P : Type 0} (t : ℕ) (xs : List (Stamped P)) (x : Stamped P) → t < x.known →
    early t (xs ++ x ∷ []) ≡ early t xs
early-beyond t [] x e = rw (lt-leb x.known t e) refl
early-beyond t (y ∷ ys) x e =
    ap (λ zs. cond (leb y.known t) (y.parcel ∷ zs) []) (early-beyond t ys x e)

-- there is a front, with a stamp within t
abbrev FrontKnown : {P : Type 0} → ℕ → List (Stamped P) → Type 0
FrontKnown t [] = ⊥
FrontKnown t (x ∷ xs) = x.known ≤ t

early-some : {P : Type 0} (t : ℕ) (xs : List (Stamped P)) → FrontKnown t xs →
    0 < length (early t xs)
early-some t [] h = absurd h
early-some t (x ∷ xs) h = rw (le-leb x.known t h) (omega arith)

early-rest : {P : Type 0} (t : ℕ) (xs : List (Stamped P)) → FrontKnown t xs →
    rest_of (early t xs) ≡ early t (rest_of xs)
early-rest t [] h = refl
early-rest t (x ∷ xs) h = rw (le-leb x.known t h) refl

early-taken : {L P : Type 0} (f : L → P → L) (l : L) (t : ℕ) (xs : List (Stamped P)) →
    FrontKnown t xs → local_taken f l (early t xs) ≡ local_taken f l (map parcel_of xs)
early-taken f l t [] h = refl
early-taken f l t (x ∷ xs) h = rw (le-leb x.known t h) refl

-- v is where the tracked run has come to, and u where its steps within t alone have
pub record IsPast {L P : Type 0} (p q t : ℕ) (v : TrackedWorld L P) (u : World L P) : Type 0 where
  pub locals : (r : ℕ) → (v.locals r).known ≤ t → u.locals r ≡ (v.locals r).local
  -- of lists to an actor that is beyond t nothing is said: of these it has taken more in v
  pub lists : (a r : ℕ) → (v.locals r).known ≤ t → u.lists a r ≡ early t (v.lists a r)
  pub sent : (v.locals p).known ≤ t → (v.locals p).sent ≤ length (u.lists p q) + t

past_start : {L P : Type 0} (p q t : ℕ) (w : World L P) → HasEmptyLists w →
    IsPast p q t (tracked_start w) w
past_start p q t w empty = record {
  locals = λ r h. refl;
  lists = λ a r h. empty a r;
  sent = λ h. omega arith;
}

module _ {L P : Type 0} (net : Rules L P) (p q t : ℕ) (v : TrackedWorld L P) (u : World L P) where
  abbrev pub after : ℕ → Action → TrackedWorld L P
  after r k = state_after (tracked net p q) v r k

  -- A step beyond t changes nothing that is said.

  stays_lists : (r : ℕ) (k : Action) → IsPast p q t v u →
      t < (local_after (tracked net p q) v r k (v.locals r)).known → (a s : ℕ) → s ≢ r →
      (v.locals s).known ≤ t → u.lists a s ≡ early t ((after r k).lists a s)
  stays_lists r Internal h beyond a s apart i = h.lists a s i
  stays_lists r (Send to) h beyond a s apart i =
      at (changed v.lists r to f a s) (changed_at v.lists r to f a s)
    where
      f : List (Stamped P) → List (Stamped P)
      f = appended (tracked net p q) r (v.locals r)

      at : (ys : List (Stamped P)) →
          (ys ≡ v.lists a s) ⊎ ((a ≡ r) × (s ≡ to) × (ys ≡ f (v.lists a s))) →
          u.lists a s ≡ early t ys
      at ys (inl j) = h.lists a s i ∙ ap (early t) (sym j)
      at ys (inr j) =
          h.lists a s i
          ∙ sym (early-beyond t (v.lists a s) ((tracked net p q).parcel r (v.locals r)) beyond)
          ∙ ap (early t) (sym j.2)
  stays_lists r (Take from) h beyond a s apart i =
      h.lists a s i
      ∙ ap (early t) (sym (changed_other v.lists from r rest_of a s (λ _ e. apart e)))
  stays_lists r Ended h beyond a s apart i = h.lists a s i
  stays_lists r Lacks h beyond a s apart i = h.lists a s i

  stays : (r : ℕ) (k : Action) → IsPast p q t v u → t < ((after r k).locals r).known →
      IsPast p q t (after r k) u
  stays r k h beyond = record {
    locals = λ s i.
        h.locals s (knew net p q v r k s t i) ∙ ap (λ l. l.local) (sym (same s (apart s i)));
    lists = λ a s i.
        stays_lists r k h (subst (λ l. t < l.known) here beyond) a s (apart s i)
        (knew net p q v r k s t i);
    sent = λ i. rw (same p (apart p i)) (h.sent (knew net p q v r k p t i));
  }
    where
      here : (after r k).locals r ≡ local_after (tracked net p q) v r k (v.locals r)
      here = put_same v.locals r _

      apart : (s : ℕ) → ((after r k).locals s).known ≤ t → s ≢ r
      apart s i e =
          let same : ((after r k).locals s).known ≡ ((after r k).locals r).known =
          ap (λ m. ((after r k).locals m).known) e in
          omega arith

      same : (s : ℕ) → s ≢ r → (after r k).locals s ≡ v.locals s
      same s e = locals_kept (tracked net p q) v r s k (λ i. e (sym i))

  -- A step within t is a step of the net too.

  -- a take reads a stamp within t
  front_within : (r from : ℕ) → 0 < length (v.lists from r) →
      ((after r (Take from)).locals r).known ≤ t → FrontKnown t (v.lists from r)
  front_within r from some i =
      at (v.lists from r) some (subst (λ x. x.known ≤ t) (put_same v.locals r _) i)
    where
      at : (xs : List (Stamped P)) → 0 < length xs →
          (local_taken ((tracked net p q).taken r) (v.locals r) xs).known ≤ t → FrontKnown t xs
      at [] some i = absurd (omega arith)
      at (x ∷ xs) some i = omega arith

  module _ (r : ℕ) (past : IsPast p q t v u) where
    same_local : (k : Action) → ((after r k).locals r).known ≤ t → u.locals r ≡ (v.locals r).local
    same_local k i = past.locals r (knew net p q v r k r t i)

    -- it is possible
    passes_possible : (k : Action) → IsPossible (tracked net p q) v r k →
        ((after r k).locals r).known ≤ t →
        ((to : ℕ) → k ≡ Send to → length (u.lists r to) < net.capacity r to) →
        IsPossible net u r k
    passes_possible Internal e i room = tt
    passes_possible (Send to) e i room = room to refl
    passes_possible (Take from) e i room =
        subst (λ xs. 0 < length xs)
        (sym (past.lists from r (knew net p q v r (Take from) r t i)))
        (early-some t (v.lists from r) (front_within r from e i))
    passes_possible Ended e i room = e
    passes_possible Lacks e i room = e

    -- what it makes of its actor
    passes_own : (k : Action) → IsPossible (tracked net p q) v r k →
        ((after r k).locals r).known ≤ t →
        local_after net u r k (u.locals r) ≡ local_after net (plain v) r k (v.locals r).local
    passes_own Internal e i = ap (net.worked r) (same_local Internal i)
    passes_own (Send to) e i = ap (net.sent r) (same_local (Send to) i)
    passes_own (Take from) e i =
        ap (λ l. local_taken (net.taken r) l (u.lists from r)) (same_local (Take from) i)
        ∙ ap (local_taken (net.taken r) (v.locals r).local)
        (past.lists from r (knew net p q v r (Take from) r t i))
        ∙ early-taken (net.taken r) (v.locals r).local t (v.lists from r)
        (front_within r from e i)
    passes_own Ended e i = absurd e
    passes_own Lacks e i = absurd e

    passes_locals : (k : Action) → IsPossible (tracked net p q) v r k →
        ((after r k).locals r).known ≤ t → (s : ℕ) → (v.locals s).known ≤ t →
        (state_after net u r k).locals s ≡ ((after r k).locals s).local
    passes_locals k e i s before =
        at (eqb_tells s r) ∙ sym (ap (λ w. w.locals s) (state-plain net p q v r k))
      where
        at : EqualOrNot s r →
            (state_after net u r k).locals s ≡ (state_after net (plain v) r k).locals s
        at (inl j) =
            rw j.1
            (put_same u.locals r _ ∙ passes_own k e i ∙ sym (put_same (plain v).locals r _))
        at (inr j) =
            put_other u.locals r _ s j.1 ∙ past.locals s before
            ∙ sym (put_other (plain v).locals r _ s j.1)

    -- and of the lists
    passes_lists : (k : Action) → IsKept p q v → IsPossible (tracked net p q) v r k →
        ((after r k).locals r).known ≤ t → (a s : ℕ) → (v.locals s).known ≤ t →
        (state_after net u r k).lists a s ≡ early t ((after r k).lists a s)
    passes_lists Internal kept e i a s before = past.lists a s before
    passes_lists (Send to) kept e i a s before =
        changed_image (early t) u.lists v.lists r to (appended net r (u.locals r))
        (appended (tracked net p q) r (v.locals r)) a s (past.lists a s before)
        (λ here _.
        ap (λ x. early t (v.lists a s) ++ net.parcel r x ∷ []) (same_local (Send to) i)
        ∙ sym (early-append t (v.lists a s) ((tracked net p q).parcel r (v.locals r))
        (AllKnown-more (v.locals a).known t (v.lists a s)
        (subst (λ m. (v.locals m).known ≤ t) (sym here) sender) (kept.stamps a s)) sender))
      where
        sender : (v.locals r).known ≤ t
        sender = knew net p q v r (Send to) r t i
    passes_lists (Take from) kept e i a s before =
        changed_image (early t) u.lists v.lists from r rest_of rest_of a s
        (past.lists a s before)
        (λ there here.
        early-rest t (v.lists a s) (rw (there, here) (front_within r from e i)))
    passes_lists Ended kept e i a s before = absurd e
    passes_lists Lacks kept e i a s before = absurd e

    sent_internal : (v.locals p).known ≤ t →
        ((after r Internal).locals p).sent ≤ length (u.lists p q) + t
    sent_internal before =
        let x : Tracked L = (tracked net p q).worked r (v.locals r) in
        let same = put_kept (λ t. t.sent) v.locals r x refl in
        rw (same p) (past.sent before)

    sent_send : (to : ℕ) → net.action r (v.locals r).local ≡ Send to → (v.locals p).known ≤ t →
        ((after r (Send to)).locals p).sent ≤ length ((state_after net u r (Send to)).lists p q) + t
    sent_send to same before = at (pair_tells p q r to)
      where
        f : List P → List P
        f = appended net r (u.locals r)

        x : Tracked L
        x = (tracked net p q).sent r (v.locals r)

        one : x.sent ≡ (v.locals r).sent + one_if ((p == r) && (q == to))
        one = ap (λ k. (v.locals r).sent + one_if (sends_into p q r k)) same

        old : (v.locals p).sent ≤ length (u.lists p q) + t
        old = past.sent before

        list : p ≡ r → q ≡ to → changed u.lists r to f p q ≡ f (u.lists p q)
        list d e =
            subst (λ m. changed u.lists m to f p q ≡ f (u.lists p q)) d
            (subst (λ n. changed u.lists p n f p q ≡ f (u.lists p q)) e
            (changed_same u.lists p q f))

        at : SamePairOrNot p q r to →
            (put v.locals r x p).sent ≤ length (changed u.lists r to f p q) + t
        at (inl j) =
            let new : (put v.locals r x p).sent ≡ x.sent =
            ap (λ m. (put v.locals r x m).sent) j.1 ∙ ap (λ l. l.sent) (put_same v.locals r x) in
            let into : one_if ((p == r) && (q == to)) ≡ 1 = ap one_if j.0 in
            let sender : (v.locals p).sent ≡ (v.locals r).sent = ap (λ m. (v.locals m).sent) j.1 in
            let long : length (f (u.lists p q)) ≡ length (u.lists p q) + 1 =
            length-append (u.lists p q) _ in
            rw (list j.1 j.2) (omega (arith, one, old))
        at (inr j) =
            let into : one_if ((p == r) && (q == to)) ≡ 0 = ap one_if j.0 in
            let kept =
            put_kept (λ t. t.sent) v.locals r x (omega (arith, one)) in
            rw (kept p, changed_other u.lists r to f p q j.1) old

    -- where the taker is within t too, what is on its way tells what was sent
    sent_take : (from : ℕ) → IsKept p q v → IsKept p q (after r (Take from)) →
        IsPossible (tracked net p q) v r (Take from) →
        ((after r (Take from)).locals r).known ≤ t → ((after r (Take from)).locals p).known ≤ t →
        ((after r (Take from)).locals p).sent
        ≤ length ((state_after net u r (Take from)).lists p q) + t
    sent_take from kept kept' e i here = at (eqb_tells q r)
      where
        y : TrackedWorld L P
        y = after r (Take from)

        x : World L P
        x = state_after net u r (Take from)

        at : EqualOrNot q r → (y.locals p).sent ≤ length (x.lists p q) + t
        at (inl j) =
            let taker : (y.locals q).known ≤ t =
            subst (λ m. (y.locals m).known ≤ t) (sym j.1) i in
            let list : length (x.lists p q) ≡ length (early t (y.lists p q)) =
            ap length
            (passes_lists (Take from) kept e i p q (knew net p q v r (Take from) q t taker)) in
            let all =
            early-length t (y.lists p q)
            (AllKnown-more (y.locals p).known t (y.lists p q) here (kept'.stamps p q)) in
            let count : (y.locals p).sent ≡ length (y.lists p q) + (y.locals q).known =
            kept'.count in
            omega arith
        at (inr j) =
            let same =
            put_kept (λ t. t.sent) v.locals r
            (local_after (tracked net p q) v r (Take from) (v.locals r))
            (taken_sent net p q r (v.locals r) (v.lists from r)) in
            rw (same p, changed_other u.lists from r rest_of p q (λ _ k. j.1 k))
            (past.sent (knew net p q v r (Take from) p t here))

    passes_sent : (k : Action) → IsKept p q v → IsKept p q (after r k) →
        net.action r (v.locals r).local ≡ k → IsPossible (tracked net p q) v r k →
        ((after r k).locals r).known ≤ t → ((after r k).locals p).known ≤ t →
        ((after r k).locals p).sent ≤ length ((state_after net u r k).lists p q) + t
    passes_sent Internal kept kept' same e i here =
        sent_internal (knew net p q v r Internal p t here)
    passes_sent (Send to) kept kept' same e i here =
        sent_send to same (knew net p q v r (Send to) p t here)
    passes_sent (Take from) kept kept' same e i here = sent_take from kept kept' e i here
    passes_sent Ended kept kept' same e i here = absurd e
    passes_sent Lacks kept kept' same e i here = absurd e

    passes : (k : Action) → IsKept p q v → IsKept p q (after r k) →
        net.action r (v.locals r).local ≡ k → IsPossible (tracked net p q) v r k →
        ((after r k).locals r).known ≤ t → IsPast p q t (after r k) (state_after net u r k)
    passes k kept kept' same e i = record {
      locals = λ s here. passes_locals k e i s (knew net p q v r k s t here);
      lists = λ a s here. passes_lists k kept e i a s (knew net p q v r k s t here);
      sent = passes_sent k kept kept' same e i;
    }

-- a state that the net reaches from w by the steps within t
pub record HasPast {L P : Type 0} (net : Rules L P) (w : World L P) (p q t : ℕ)
    (v : TrackedWorld L P) : Type 0 where
  pub state : World L P
  pub steps : ℕ
  pub reached : Reaches net w steps state
  pub past : IsPast p q t v state

module _ {L P : Type 0} (net : Rules L P) (w : World L P) (p q t : ℕ) where
  pub has_past_start : HasEmptyLists w → HasPast net w p q t (tracked_start w)
  has_past_start empty = record {
    state = w;
    steps = 0;
    reached = at_start net w;
    past = past_start p q t w empty;
  }

  -- each step keeps it
  pub past_by : (v : TrackedWorld L P) (r : ℕ) → NeverWaits net w → IsKept p q v →
      IsKept p q (next (tracked net p q) v r) → IsEnabled (tracked net p q) v r →
      HasPast net w p q t v → HasPast net w p q t (next (tracked net p q) v r)
  past_by v r calm kept kept' e h = at (leb_tells (v'.locals r).known t)
    where
      k : Action
      k = net.action r (v.locals r).local

      v' : TrackedWorld L P
      v' = next (tracked net p q) v r

      u : World L P
      u = h.state

      at : WithinOrNot (v'.locals r).known t → HasPast net w p q t (next (tracked net p q) v r)
      at (inl i) =
          let same : action_at net u r ≡ k =
          ap (net.action r) (h.past.locals r (knew net p q v r k r t i.1)) in
          let possible : IsPossible net u r k =
          passes_possible net p q t v u r h.past k e.possible i.1
          (λ to j. has_room net w u r to h.steps calm h.reached e.actor (same ∙ j)) in
          let enabled : IsEnabled net u r =
          record {
            actor = e.actor;
            possible = subst (IsPossible net u r) (sym same) possible;
          } in
          record {
            state = next net u r;
            steps = h.steps + 1;
            reached = one_more net w u h.steps r h.reached enabled;
            past =
                subst (λ j. IsPast p q t v' (state_after net u r j)) (sym same)
                (passes net p q t v u r h.past k kept kept' refl e.possible i.1);
          }
      at (inr i) = record {
        state = u;
        steps = h.steps;
        reached = h.reached;
        past = stays net p q t v u r k h.past i.1;
      }
