-- Nets that differ in their capacities alone.
use Rattle.std.proofs.Common.{◌≡◌, ℕ, ◌+◌, ◌<◌, ◌≤◌, List, [], ◌∷◌, ◌++◌, length, length-append, refl, sym, ◌∙◌, ap, subst, ◌⊎◌, inl, inr, arith}
use Rattle.std.proofs.lemmas.Bool.Decides.{leb_tells}
use Rattle.pyr_net.specs.Net.{Rules, World, IsEnabled, IsPossible, action_at, next, state_after, changed, rest_of, appended}
use Rattle.pyr_net.specs.Run.{IsRun, end_of, Reaches}
use Rattle.pyr_net.specs.declared.action.Action.{Action}
use Rattle.pyr_net.specs.declared.action.Action.TheVariants.{Internal, Send, Take, Ended, Lacks}
use Rattle.pyr_net.proofs.Reach.{IsRun-append, end_of-append}
use Rattle.pyr_net.proofs.Update.{changed_at, changed_same}
use Rattle.pyr_calm.specs.Calm.{IsGreatestLength, SendWaits, NeverWaits, SomeSendWaits, with_capacities, EachFits, StaysCalm}
use Rattle.pyr_calm.proofs.Changes.{WithinOrNot}

-- where no send waits, a send has room
pub has_room : {L P : Type 0} (net : Rules L P) (w u : World L P) (r to n : ℕ) → NeverWaits net w →
    Reaches net w n u → r < net.actors → action_at net u r ≡ Send to →
    length (u.lists r to) < net.capacity r to
has_room net w u r to n calm there actor sends =
    at (leb_tells (net.capacity r to) (length (u.lists r to)))
  where
    at : WithinOrNot (net.capacity r to) (length (u.lists r to)) →
        length (u.lists r to) < net.capacity r to
    at (inl i) =
        absurd (subst (λ x. ¬ SendWaits net x r to) there.ends (calm there.run r to there.is_run)
        (record { actor = actor; sends = sends; full = i.1 }))
    at (inr i) = i.1

-- A list that is within its capacity stays so.

rest_within : {A : Type 0} (xs : List A) (n : ℕ) → length xs ≤ n → length (rest_of xs) ≤ n
rest_within [] n h = h
rest_within (x ∷ xs) n h = omega arith

within_after : {L P : Type 0} (net : Rules L P) (u : World L P) (r : ℕ) (k : Action) (p q : ℕ) →
    IsPossible net u r k → length (u.lists p q) ≤ net.capacity p q →
    length ((state_after net u r k).lists p q) ≤ net.capacity p q
within_after net u r Internal p q e h = h
within_after {L} {P} net u r (Send to) p q e h =
    at (changed u.lists r to f p q) (changed_at u.lists r to f p q)
  where
    f : List P → List P
    f = appended net r (u.locals r)

    at : (ys : List P) →
        (ys ≡ u.lists p q) ⊎ ((p ≡ r) × (q ≡ to) × (ys ≡ f (u.lists p q))) →
        length ys ≤ net.capacity p q
    at ys (inl i) = rw i h
    at ys (inr i) =
        let long : length (f (u.lists p q)) ≡ length (u.lists p q) + 1 =
        length-append (u.lists p q) _ in
        let room : length (u.lists p q) < net.capacity p q = rw (i.0, i.1) e in
        rw i.2 (omega arith)
within_after {L} {P} net u r (Take from) p q e h =
    at (changed u.lists from r rest_of p q) (changed_at u.lists from r rest_of p q)
  where
    at : (ys : List P) →
        (ys ≡ u.lists p q) ⊎ ((p ≡ from) × (q ≡ r) × (ys ≡ rest_of (u.lists p q))) →
        length ys ≤ net.capacity p q
    at ys (inl i) = rw i h
    at ys (inr i) = rw i.2 (rest_within (u.lists p q) (net.capacity p q) h)
within_after net u r Ended p q e h = h
within_after net u r Lacks p q e h = h

pub within : {L P : Type 0} (net : Rules L P) (u : World L P) (run : List ℕ) (p q : ℕ) →
    IsRun net u run → length (u.lists p q) ≤ net.capacity p q →
    length ((end_of net u run).lists p q) ≤ net.capacity p q
within net u [] p q r h = h
within net u (x ∷ run) p q r h =
    within net (next net u x) run p q r.1
    (within_after net u x (net.action x (u.locals x)) p q r.0.possible h)

-- Steps and runs with other capacities.

module _ {L P : Type 0} (net : Rules L P) (room : ℕ → ℕ → ℕ) where
  abbrev pub other : Rules L P
  other = with_capacities net room

  state-with : (u : World L P) (r : ℕ) (k : Action) →
      state_after other u r k ≡ state_after net u r k
  state-with u r Internal = refl
  state-with u r (Send to) = refl
  state-with u r (Take from) = refl
  state-with u r Ended = refl
  state-with u r Lacks = refl

  -- a step leads to the same state
  pub next-with : (u : World L P) (r : ℕ) → next other u r ≡ next net u r
  next-with u r = state-with u r (net.action r (u.locals r))

  -- and so does a run
  pub end-with : (u : World L P) (run : List ℕ) → end_of other u run ≡ end_of net u run
  end-with u [] = refl
  end-with u (r ∷ run) =
      ap (λ v. end_of other v run) (next-with u r) ∙ end-with (next net u r) run

  possible-with : (u : World L P) (r : ℕ) (k : Action) → IsPossible net u r k →
      ((to : ℕ) → k ≡ Send to → length (u.lists r to) < room r to) → IsPossible other u r k
  possible-with u r Internal e h = tt
  possible-with u r (Send to) e h = h to refl
  possible-with u r (Take from) e h = e
  possible-with u r Ended e h = e
  possible-with u r Lacks e h = e

  -- a step is one of both, where a send finds room
  pub enabled-with : (u : World L P) (r : ℕ) → IsEnabled net u r →
      ((to : ℕ) → action_at net u r ≡ Send to → length (u.lists r to) < room r to) →
      IsEnabled other u r
  enabled-with u r e h = record {
    actor = e.actor;
    possible = possible-with u r (net.action r (u.locals r)) e.possible h;
  }

  -- a step is one of both, or is a send that waits here
  step_or_waits : (u : World L P) (r : ℕ) → IsEnabled net u r →
      IsEnabled other u r ⊎ ((to : ℕ) × SendWaits other u r to)
  step_or_waits u r e = at (net.action r (u.locals r)) refl e.possible
    where
      at : (k : Action) → net.action r (u.locals r) ≡ k → IsPossible net u r k →
          IsEnabled other u r ⊎ ((to : ℕ) × SendWaits other u r to)
      at Internal same i = inl (enabled-with u r e (λ to j. let d = sym same ∙ j in absurd (cc)))
      at (Send to) same i = room_or (leb_tells (room r to) (length (u.lists r to)))
        where
          room_or : WithinOrNot (room r to) (length (u.lists r to)) →
              IsEnabled other u r ⊎ ((to : ℕ) × SendWaits other u r to)
          room_or (inl j) = inr (to, record { actor = e.actor; sends = same; full = j.1 })
          room_or (inr j) = inl (record {
            actor = e.actor;
            possible = subst (IsPossible other u r) (sym same) j.1;
          })
      at (Take from) same i =
          inl (enabled-with u r e (λ to j. let d = sym same ∙ j in absurd (cc)))
      at Ended same i = absurd i
      at Lacks same i = absurd i

  -- a run is one of both, or comes to a send that waits
  run_or_waits : (w u : World L P) (before run : List ℕ) → IsRun other w before →
      end_of other w before ≡ u → IsRun net u run → IsRun other u run ⊎ SomeSendWaits other w
  run_or_waits w u before [] b e r = inl tt
  run_or_waits w u before (x ∷ run) b e r =
      at (step_or_waits u x r.0)
      (λ enabled.
      run_or_waits w (next net u x) (before ++ x ∷ []) run
      (IsRun-append other w before x b (subst (λ v. IsEnabled other v x) (sym e) enabled))
      (end_of-append other w before x ∙ ap (λ v. next other v x) e ∙ next-with u x) r.1)
    where
      also : IsEnabled other u x → IsRun other (next net u x) run ⊎ SomeSendWaits other w →
          IsRun other u (x ∷ run) ⊎ SomeSendWaits other w
      also d (inl j) = inl (d, subst (λ v. IsRun other v run) (sym (next-with u x)) j)
      also d (inr j) = inr j

      at : IsEnabled other u x ⊎ ((to : ℕ) × SendWaits other u x to) →
          (IsEnabled other u x → IsRun other (next net u x) run ⊎ SomeSendWaits other w) →
          IsRun other u (x ∷ run) ⊎ SomeSendWaits other w
      at (inl i) go = also i (go i)
      at (inr i) go = inr (before, x, i.0, b, subst (λ v. SendWaits other v x i.0) (sym e) i.1)

-- Less room than the greatest length of one list: the run to that length comes to a send that
-- waits, since with this room no list grows so long.

pub less_waits : {L P : Type 0} (net : Rules L P) (room : ℕ → ℕ → ℕ) (w : World L P) (p q n : ℕ) →
    IsGreatestLength net w p q n → room p q < n → length (w.lists p q) ≤ room p q →
    SomeSendWaits (with_capacities net room) w
less_waits {L} {P} net room w p q n h low start =
    at (run_or_waits net room w w [] h.run tt refl h.is_run)
  where
    less : Rules L P
    less = with_capacities net room

    at : IsRun (with_capacities net room) w h.run ⊎ SomeSendWaits (with_capacities net room) w →
        SomeSendWaits (with_capacities net room) w
    at (inl r) =
        let short : length ((end_of less w h.run).lists p q) ≤ room p q =
        within less w h.run p q r start in
        let same : length ((end_of less w h.run).lists p q) ≡ n =
        ap (λ v. length (v.lists p q)) (end-with net room w h.run) ∙ h.there in
        absurd (omega arith)
    at (inr s) = s

pub one_greatest : {L P : Type 0} (net : Rules L P) (w : World L P) (p q m n : ℕ) →
    IsGreatestLength net w p q m → IsGreatestLength net w p q n → m ≡ n
one_greatest net w p q m n h k =
    let a : length ((end_of net w k.run).lists p q) ≤ m = h.greatest k.run k.is_run in
    let b : length ((end_of net w h.run).lists p q) ≤ n = k.greatest h.run h.is_run in
    let c : length ((end_of net w h.run).lists p q) ≡ m = h.there in
    let d : length ((end_of net w k.run).lists p q) ≡ n = k.there in
    omega arith

-- Where no send waits, a run with whatever capacities is one.

module _ {L P : Type 0} (net : Rules L P) (room : ℕ → ℕ → ℕ) (w : World L P)
    (calm : NeverWaits net w) where
  pub finds_room : (run : List ℕ) (r to : ℕ) → IsRun net w run → r < net.actors →
      action_at net (end_of net w run) r ≡ Send to →
      length ((end_of net w run).lists r to) < net.capacity r to
  finds_room run r to there actor sends =
      has_room net w (end_of net w run) r to (length run) calm
      (record { run = run; is_run = there; steps = refl; ends = refl }) actor sends

  -- what goes on from a reached state is a run of both
  pub back : (before run : List ℕ) → IsRun net w before →
      IsRun (with_capacities net room) (end_of net w before) run →
      IsRun net (end_of net w before) run
  back before [] b r = tt
  back before (x ∷ run) b r =
      let u : World L P = end_of net w before in
      let same : end_of net w (before ++ x ∷ []) ≡ next net u x = end_of-append net w before x in
      let enabled : IsEnabled net u x =
      enabled-with (with_capacities net room) net.capacity u x r.0
      (λ to e. finds_room before x to b r.0.actor e) in
      let rest =
      back (before ++ x ∷ []) run (IsRun-append net w before x b enabled)
      (subst (λ v. IsRun (with_capacities net room) v run)
      (next-with net room u x ∙ sym same) r.1) in
      (enabled, subst (λ v. IsRun net v run) same rest)

-- Room for all that is reached: a send is possible, and what it leaves is reached, so the new
-- capacity is above what it finds.

module _ {L P : Type 0} (net : Rules L P) (room : ℕ → ℕ → ℕ) (w : World L P)
    (calm : NeverWaits net w) (fits : EachFits net w room) where
  fits_too : (run : List ℕ) (r to : ℕ) → IsRun net w run → r < net.actors →
      action_at net (end_of net w run) r ≡ Send to →
      length ((end_of net w run).lists r to) < room r to
  fits_too run r to there actor sends =
      let u : World L P = end_of net w run in
      let z : World L P = end_of net w (run ++ r ∷ []) in
      let f : List P → List P = appended net r (u.locals r) in
      let enabled : IsEnabled net u r =
      record {
        actor = actor;
        possible = subst (IsPossible net u r) (sym sends) (finds_room net room w calm run r to there actor sends);
      } in
      let more : length (z.lists r to) ≤ room r to =
      fits (run ++ r ∷ []) r to (IsRun-append net w run r there enabled) in
      let ends : length (z.lists r to) ≡ length (changed u.lists r to f r to) =
      ap (λ v. length (v.lists r to))
      (end_of-append net w run r ∙ ap (state_after net u r) sends) in
      let list : length (changed u.lists r to f r to) ≡ length (f (u.lists r to)) =
      ap length (changed_same u.lists r to f) in
      let long : length (f (u.lists r to)) ≡ length (u.lists r to) + 1 =
      length-append (u.lists r to) _ in
      omega arith

  -- what goes on from a reached state is a run of both
  forth : (before run : List ℕ) → IsRun net w before → IsRun net (end_of net w before) run →
      IsRun (with_capacities net room) (end_of net w before) run
  forth before [] b r = tt
  forth before (x ∷ run) b r =
      let u : World L P = end_of net w before in
      let same : end_of net w (before ++ x ∷ []) ≡ next net u x = end_of-append net w before x in
      let rest =
      forth (before ++ x ∷ []) run (IsRun-append net w before x b r.0)
      (subst (λ v. IsRun net v run) (sym same) r.1) in (
        enabled-with net room u x r.0 (λ to e. fits_too before x to b r.0.actor e),
        subst (λ v. IsRun (with_capacities net room) v run) (same ∙ sym (next-with net room u x))
            rest,
      )

  pub stays_calm : StaysCalm net w room
  stays_calm = record {
    same_runs = λ run. (forth [] run tt, back net room w calm [] run tt);
    same_ends = end-with net room w;
    waits = λ run p q r h.
        let u : World L P = end_of net w run in
        let there : SendWaits (with_capacities net room) u p q =
        subst (λ v. SendWaits (with_capacities net room) v p q) (end-with net room w run) h in
        let less : length (u.lists p q) < room p q =
        fits_too run p q (back net room w calm [] run tt r) there.actor there.sends in
        let full : room p q ≤ length (u.lists p q) = there.full in
        omega arith;
  }
