-- How full lists get along a run, and runs under other capacities.
use Rattle.std.proofs.Common.{◌≡◌, ℕ, ◌+◌, ◌<◌, ◌≤◌, max, List, [], ◌∷◌, length, length-append, ◌⊎◌, inl, inr, refl, sym, ◌∙◌, ap, subst, arith}
use Rattle.pyr_net.specs.Net.{Rules, World, IsPossible, action_at, next, state_after, changed, rest_of, appended}
use Rattle.pyr_net.specs.Run.{IsRun, end_of}
use Rattle.pyr_net.specs.Occupancy.{with_capacities, occupancy, OccupancySuffices, Fits, OccupancyFits}
use Rattle.pyr_net.specs.declared.action.Action.{Action}
use Rattle.pyr_net.specs.declared.action.Action.TheVariants.{Internal, Send, Take, Ended, Lacks}
use Rattle.pyr_net.proofs.Update.{changed_same, changed_at}

-- a list is never longer than its occupancy, at the start and after each step
pub occupied_now : {L P : Type 0} (net : Rules L P) (w : World L P) (run : List ℕ) (p q : ℕ) →
    length (w.lists p q) ≤ occupancy net w run p q
occupied_now net w [] p q = omega arith
occupied_now net w (a ∷ run) p q = omega arith

-- after a send its list is one longer
pub sent_length : {L P : Type 0} (net : Rules L P) (w : World L P) (p to : ℕ) →
    length ((state_after net w p (Send to)).lists p to) ≡ length (w.lists p to) + 1
sent_length net w p to =
    ap length (changed_same w.lists p to (appended net p (w.locals p)))
    ∙ length-append (w.lists p to) (net.parcel p (w.locals p) ∷ [])

-- the capacities say only when a send is enabled
pub same_after : {L P : Type 0} (net : Rules L P) (w : World L P) (p : ℕ) (c : ℕ → ℕ → ℕ)
    (k : Action) → state_after (with_capacities net c) w p k ≡ state_after net w p k
same_after net w p c Internal = refl
same_after net w p c (Send to) = refl
same_after net w p c (Take from) = refl
same_after net w p c Ended = refl
same_after net w p c Lacks = refl

pub same_end : {L P : Type 0} (net : Rules L P) (w : World L P) (run : List ℕ) (c : ℕ → ℕ → ℕ) →
    end_of (with_capacities net c) w run ≡ end_of net w run
same_end net w [] c = refl
same_end net w (p ∷ run) c =
    ap (λ v. end_of (with_capacities net c) v run) (same_after net w p c (action_at net w p))
    ∙ same_end net (next net w p) run c

possible : {L P : Type 0} (net : Rules L P) (w : World L P) (p : ℕ) (c : ℕ → ℕ → ℕ) (k : Action) →
    IsPossible net w p k → ((a b : ℕ) → length ((state_after net w p k).lists a b) ≤ c a b) →
    IsPossible (with_capacities net c) w p k
possible net w p c Internal h g = tt
possible net w p c (Send to) h g = less _ _ _ (sent_length net w p to) (g p to)
  where
    less : (m n l : ℕ) → m ≡ n + 1 → m ≤ l → n < l
    less m n l e f = omega (arith, e, f)
possible net w p c (Take from) h g = h
possible net w p c Ended h g = h
possible net w p c Lacks h g = h

stays_run : {L P : Type 0} (net : Rules L P) (w : World L P) (run : List ℕ) (c : ℕ → ℕ → ℕ) →
    IsRun net w run → ((a b : ℕ) → occupancy net w run a b ≤ c a b) →
    IsRun (with_capacities net c) w run
stays_run net w [] c r h = tt
stays_run net w (p ∷ run) c r h =
    let now = possible net w p c (action_at net w p) r.0.possible
    (λ a b. within _ _ _ _ (occupied_now net (next net w p) run a b) (h a b)) in
    let rest = stays_run net (next net w p) run c r.1 (λ a b. later _ _ _ (h a b)) in (
      record { actor = r.0.actor; possible = now },
      subst (λ v. IsRun (with_capacities net c) v run)
          (sym (same_after net w p c (action_at net w p))) rest,
    )
  where
    later : (x y z : ℕ) → max x y ≤ z → y ≤ z
    later x y z f = omega (arith, f)

    within : (l x y z : ℕ) → l ≤ y → max x y ≤ z → l ≤ z
    within l x y z g f = omega (arith, f, g)

pub suffices : {L P : Type 0} → OccupancySuffices L P
suffices net w run c r h =
    record { is_run = stays_run net w run c r h; ends = same_end net w run c }

-- no step lets a list pass its capacity
pub fits_by : {L P : Type 0} (net : Rules L P) (w : World L P) (r : ℕ) (a : Action) →
    IsPossible net w r a → Fits net w → Fits net (state_after net w r a)
fits_by net w r Internal h f p q = f p q
fits_by {L} {P} net w r (Send to) h f p q =
    at (changed w.lists r to more p q) (changed_at w.lists r to more p q)
  where
    more : List P → List P
    more = appended net r (w.locals r)

    at : (ys : List P) → (ys ≡ w.lists p q) ⊎ ((p ≡ r) × (q ≡ to) × (ys ≡ more (w.lists p q))) →
        length ys ≤ net.capacity p q
    at ys (inl e) = rw e (f p q)
    at ys (inr e) =
        rw (e.2, e.0, e.1)
        (let l = length-append (w.lists r to) (net.parcel r (w.locals r) ∷ []) in omega arith)
fits_by {L} {P} net w r (Take from) h f p q =
    at (changed w.lists from r rest_of p q) (changed_at w.lists from r rest_of p q)
  where
    shorter : (xs : List P) → length (rest_of xs) ≤ length xs
    shorter [] = omega arith
    shorter (x ∷ xs) = omega arith

    at : (ys : List P) → (ys ≡ w.lists p q) ⊎ ((p ≡ from) × (q ≡ r) × (ys ≡ rest_of (w.lists p q))) →
        length ys ≤ net.capacity p q
    at ys (inl e) = rw e (f p q)
    at ys (inr e) = rw e.2 (let s = shorter (w.lists p q) in let g = f p q in omega arith)
fits_by net w r Ended h f p q = f p q
fits_by net w r Lacks h f p q = f p q

pub run_fits : {L P : Type 0} (net : Rules L P) (w : World L P) (run : List ℕ) → IsRun net w run →
    Fits net w → Fits net (end_of net w run)
run_fits net w [] r f = f
run_fits net w (p ∷ run) r f =
    run_fits net (next net w p) run r.1 (fits_by net w p (action_at net w p) r.0.possible f)

pub occupancy_fits : {L P : Type 0} → OccupancyFits L P
occupancy_fits net w [] r f p q = f p q
occupancy_fits net w (a ∷ run) r f p q =
    let g = fits_by net w a (action_at net w a) r.0.possible f in
    both _ _ _ (f p q) (occupancy_fits net (next net w a) run r.1 g p q)
  where
    both : (x y z : ℕ) → x ≤ z → y ≤ z → max x y ≤ z
    both x y z g h = omega (arith, g, h)
