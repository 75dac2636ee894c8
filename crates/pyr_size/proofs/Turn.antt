-- The steps of a run that follows a schedule: takes, that leave the place, and one step that moves it.
use Rattle.std.proofs.Common.{◌≡◌, ◌≢◌, ℕ, zero, suc, ◌+◌, ◌≤◌, ◌==◌, ◌&&◌, max, Bool, true, false, cond, List, [], ◌∷◌, ◌++◌, length, ◌⊎◌, inl, inr, refl, sym, ◌∙◌, ap, subst, arith}
use Rattle.std.proofs.lemmas.Bool.{eqb-true, and_parts}
use Rattle.pyr_num.specs.declared.ids.DatumId.{DatumId}
use Rattle.pyr_net.specs.Net.{World, IsEnabled, IsPossible, action_at, next, state_after, changed, appended, rest_of, local_taken}
use Rattle.pyr_net.specs.Run.{IsRun, end_of}
use Rattle.pyr_net.specs.Occupancy.{occupancy}
use Rattle.pyr_net.specs.declared.action.Action.{Action}
use Rattle.pyr_net.specs.declared.action.Action.TheVariants.{Internal, Send as SendTo, Take, Ended, Lacks}
use Rattle.pyr_net.proofs.Update.{put_same, changed_at}
use Rattle.pyr_net.proofs.Occupied.{occupied_now}
use Rattle.pyr_bundle.specs.Parts.{Parts}
use Rattle.pyr_machine.specs.Machine.{LocalState, tags, tag_rules, instr_at, worked_by, advanced}
use Rattle.pyr_machine.specs.Schedule.{again, FollowsSchedule}
use Rattle.pyr_machine.proofs.Demand.{taken_place}
use Rattle.pyr_machine.proofs.Traffic.{skips}
use Rattle.pyr_size.specs.Followed.{raised, IsLeft}

module _ (b : Parts) (p : ℕ) where
  abbrev place : World (LocalState DatumId) DatumId → ℕ
  place w = (w.locals p).place

  -- a take leaves the place
  take_stays : (w : World (LocalState DatumId) DatumId) (from : ℕ) → place (state_after (tag_rules b) w p (Take from)) ≡ place w
  take_stays w from =
      ap (λ (l : LocalState DatumId). l.place) (put_same w.locals p (local_taken ((tag_rules b).taken p) (w.locals p) (w.lists from p)))
      ∙ taken_place (w.lists from p) (w.locals p)

  -- every other step moves it by one
  moves : (w : World (LocalState DatumId) DatumId) (k : Action) → action_at (tag_rules b) w p ≡ k → IsPossible (tag_rules b) w p k → ((from : ℕ) → k ≢ Take from) → place (state_after (tag_rules b) w p k) ≡ place w + 1
  moves w Internal e h n =
      ap (λ (l : LocalState DatumId). l.place) (put_same w.locals p (worked_by (tags b) (instr_at b p (w.locals p)) (w.locals p)))
      ∙ (skips (tags b) b (instr_at b p (w.locals p)) (w.locals p) e).2
  moves w (SendTo to) e h n = ap (λ (l : LocalState DatumId). l.place) (put_same w.locals p (advanced (w.locals p)))
  moves w (Take from) e h n = absurd (n from refl)
  moves w Ended e h n = absurd h
  moves w Lacks e h n = absurd h

  -- no step lets it fall
  grows_by : (w : World (LocalState DatumId) DatumId) (k : Action) → action_at (tag_rules b) w p ≡ k → place w ≤ place (state_after (tag_rules b) w p k)
  grows_by w Internal e =
      let m = moves w Internal e tt (λ from (f : Internal ≡ Take from). cc) in omega (arith, m)
  grows_by w (SendTo to) e =
      let m = ap (λ (l : LocalState DatumId). l.place) (put_same w.locals p (advanced (w.locals p))) in omega (arith, m)
  grows_by w (Take from) e = let m = take_stays w from in omega (arith, m)
  grows_by w Ended e =
      let m = ap (λ (l : LocalState DatumId). l.place) (put_same w.locals p (w.locals p)) in omega (arith, m)
  grows_by w Lacks e =
      let m = ap (λ (l : LocalState DatumId). l.place) (put_same w.locals p (w.locals p)) in omega (arith, m)

  grows : (n : ℕ) (w : World (LocalState DatumId) DatumId) → place w ≤ place (end_of (tag_rules b) w (again n p))
  grows zero w = omega arith
  grows (suc n) w =
      let here = grows_by w (action_at (tag_rules b) w p) refl in
      let there = grows n (next (tag_rules b) w p) in
      omega (arith, here, there)

  -- two turns from one state take as often
  same_takes : (n m x : ℕ) (w : World (LocalState DatumId) DatumId)
      → place (end_of (tag_rules b) w (again n p)) ≡ x → place (end_of (tag_rules b) w (again (suc n) p)) ≡ x + 1
      → place (end_of (tag_rules b) w (again m p)) ≡ x → place (end_of (tag_rules b) w (again (suc m) p)) ≡ x + 1
      → n ≡ m
  same_takes zero zero x w waits moved waits' moved' = refl
  same_takes zero (suc m) x w waits moved waits' moved' =
      let g = grows m (next (tag_rules b) w p) in absurd (omega (arith, g, moved, waits'))
  same_takes (suc n) zero x w waits moved waits' moved' =
      let g = grows n (next (tag_rules b) w p) in absurd (omega (arith, g, waits, moved'))
  same_takes (suc n) (suc m) x w waits moved waits' moved' =
      ap suc (same_takes n m x (next (tag_rules b) w p) waits moved waits' moved')

-- a run that follows a schedule from a state is the only one
pub one_run : (b : Parts) (schedule : List ℕ) (w : World (LocalState DatumId) DatumId) (run other : List ℕ) → FollowsSchedule (tags b) b w schedule run → FollowsSchedule (tags b) b w schedule other → run ≡ other
one_run b [] w run other f g = f ∙ sym g
one_run b (p ∷ schedule) w run other (n, tail, is, waits, moved, more) (m, tail', is', waits', moved', more') =
    let same : n ≡ m = same_takes b p n m (w.locals p).place w waits moved waits' moved' in
    let there = subst (λ k. FollowsSchedule (tags b) b (end_of (tag_rules b) w (again (suc k) p)) schedule tail') (sym same) more' in
    let rest : tail ≡ tail' = one_run b schedule (end_of (tag_rules b) w (again (suc n) p)) tail tail' more there in
    is ∙ (λ i. again (suc (same i)) p ++ rest i) ∙ sym is'

-- where two bundles have the same ends of runs, a run follows a schedule in both
pub follows_alike : (a b : Parts) → ((w : World (LocalState DatumId) DatumId) (run : List ℕ) → end_of (tag_rules a) w run ≡ end_of (tag_rules b) w run) → (schedule : List ℕ) (w : World (LocalState DatumId) DatumId) (run : List ℕ)
    → FollowsSchedule (tags a) a w schedule run → FollowsSchedule (tags b) b w schedule run
follows_alike a b same [] w run f = f
follows_alike a b same (p ∷ schedule) w run (n, tail, is, waits, moved, more) =
    let at : (m : ℕ) → ((end_of (tag_rules b) w (again m p)).locals p).place ≡ ((end_of (tag_rules a) w (again m p)).locals p).place =
    λ m. ap (λ (v : World (LocalState DatumId) DatumId). (v.locals p).place) (sym (same w (again m p))) in
    let rest = follows_alike a b same schedule (end_of (tag_rules a) w (again (suc n) p)) tail more in
    (n, tail, is, at n ∙ waits, at (suc n) ∙ moved, subst (λ v. FollowsSchedule (tags b) b v schedule tail) (same w (again (suc n) p)) rest)

-- what is left of a run after its first step
abbrev Rest : Parts → List ℕ → ℕ → World (LocalState DatumId) DatumId → List ℕ → Type 0
Rest b schedule p w run = (tail : List ℕ) × (run ≡ p ∷ tail) × FollowsSchedule (tags b) b (next (tag_rules b) w p) schedule tail

module _ (b : Parts) (p : ℕ) (schedule : List ℕ) (w : World (LocalState DatumId) DatumId) (run : List ℕ) where
  -- after a take p is still at the same instruction
  take_follows : (from : ℕ) → action_at (tag_rules b) w p ≡ Take from → FollowsSchedule (tags b) b w (p ∷ schedule) run → Rest b (p ∷ schedule) p w run
  take_follows from e (zero, tail, is, waits, moved, more) =
      let stays = subst (λ k. ((state_after (tag_rules b) w p k).locals p).place ≡ (w.locals p).place) (sym e) (take_stays b p w from) in absurd (omega (arith, stays, moved))
  take_follows from e (suc n, tail, is, waits, moved, more) =
      let stays : ((next (tag_rules b) w p).locals p).place ≡ (w.locals p).place = subst (λ k. ((state_after (tag_rules b) w p k).locals p).place ≡ (w.locals p).place) (sym e) (take_stays b p w from) in
      (again (suc n) p ++ tail, is, (n, tail, refl, waits ∙ sym stays, moved ∙ ap (λ m. m + 1) (sym stays), more))

  -- and any other step goes past it
  step_follows : IsEnabled (tag_rules b) w p → ((from : ℕ) → action_at (tag_rules b) w p ≢ Take from) → FollowsSchedule (tags b) b w (p ∷ schedule) run → Rest b schedule p w run
  step_follows h n (zero, tail, is, waits, moved, more) = (tail, is, more)
  step_follows h n (suc k, tail, is, waits, moved, more) =
      let m = moves b p w (action_at (tag_rules b) w p) refl h.possible n in
      let g = grows b p k (next (tag_rules b) w p) in
      absurd (omega (arith, m, g, waits))

  -- p makes the next step of a run that follows the schedule
  pub first_enabled : FollowsSchedule (tags b) b w (p ∷ schedule) run → IsRun (tag_rules b) w run → IsEnabled (tag_rules b) w p
  first_enabled f r = (subst (IsRun (tag_rules b) w) f.2 r).0

-- the numbers, where no list is longer than before
kept : (m l o x n : ℕ) → l ≤ m → n ≤ l → max m (max l o) ≡ x → (n ≤ m) × (max m o ≡ x)
kept m l o x n f g h = (omega (arith, f, g), omega (arith, f, h))

grown : (m l o x n : ℕ) → l ≤ m → n ≤ o → max m (max l o) ≡ x → (n ≤ max m n) × (max (max m n) o ≡ x)
grown m l o x n f g h = (omega arith, omega (arith, f, g, h))

-- what is known of each list after a step
abbrev Within : Parts → (ℕ → ℕ → ℕ) → World (LocalState DatumId) DatumId → List ℕ → (ℕ → ℕ → ℕ) → Type 0
Within b whole v tail most = (x y : ℕ) → (length (v.lists x y) ≤ most x y) × (max (most x y) (occupancy (tag_rules b) v tail x y) ≡ whole x y)

module _ (b : Parts) (whole : ℕ → ℕ → ℕ) (p : ℕ) (schedule : List ℕ) (w : World (LocalState DatumId) DatumId) (most : ℕ → ℕ → ℕ) (left : IsLeft b whole (p ∷ schedule) w most) where
  pub turn_enabled : IsEnabled (tag_rules b) w p
  turn_enabled = first_enabled b p schedule w left.rest left.follows left.is_run

  -- a take
  pub take_left : (from : ℕ) → action_at (tag_rules b) w p ≡ Take from → IsLeft b whole (p ∷ schedule) (next (tag_rules b) w p) most
  take_left from e =
      let (tail, is, follows) = take_follows b p schedule w left.rest from e left.follows in
      let r = subst (IsRun (tag_rules b) w) is left.is_run in
      let each : Within b whole (next (tag_rules b) w p) tail most = λ x y. kept (most x y) _ _ (whole x y) _ (left.reached x y) (shorter x y) (subst (λ run. max (most x y) (occupancy (tag_rules b) w run x y) ≡ whole x y) is (left.over_all x y)) in
      record { rest = tail; is_run = r.1; follows = follows; reached = λ x y. (each x y).0; over_all = λ x y. (each x y).1 }
    where
      rest_le : (xs : List DatumId) → length (rest_of xs) ≤ length xs
      rest_le [] = omega arith
      rest_le (x ∷ xs) = omega arith

      shorter : (x y : ℕ) → length ((next (tag_rules b) w p).lists x y) ≤ length (w.lists x y)
      shorter x y = subst (λ k. length ((state_after (tag_rules b) w p k).lists x y) ≤ length (w.lists x y)) (sym e) (at (changed w.lists from p rest_of x y) (changed_at w.lists from p rest_of x y))
        where
          at : (ys : List DatumId) → (ys ≡ w.lists x y) ⊎ ((x ≡ from) × (y ≡ p) × (ys ≡ rest_of (w.lists x y))) → length ys ≤ length (w.lists x y)
          at ys (inl same) = rw same (omega arith)
          at ys (inr is) = rw is.2 (rest_le (w.lists x y))

  -- a step that is neither a take nor a send
  pub work_left : action_at (tag_rules b) w p ≡ Internal → IsLeft b whole schedule (next (tag_rules b) w p) most
  work_left e =
      let (tail, is, follows) = step_follows b p schedule w left.rest turn_enabled (λ from f. let no' : Internal ≡ Take from = sym e ∙ f in cc) left.follows in
      let r = subst (IsRun (tag_rules b) w) is left.is_run in
      let each : Within b whole (next (tag_rules b) w p) tail most = λ x y. kept (most x y) _ _ (whole x y) _ (left.reached x y) (same x y) (subst (λ run. max (most x y) (occupancy (tag_rules b) w run x y) ≡ whole x y) is (left.over_all x y)) in
      record { rest = tail; is_run = r.1; follows = follows; reached = λ x y. (each x y).0; over_all = λ x y. (each x y).1 }
    where
      same : (x y : ℕ) → length ((next (tag_rules b) w p).lists x y) ≤ length (w.lists x y)
      same x y = subst (λ k. length ((state_after (tag_rules b) w p k).lists x y) ≤ length (w.lists x y)) (sym e) (omega arith)

  -- a send, after which its list is looked at
  pub send_left : (to : ℕ) → action_at (tag_rules b) w p ≡ SendTo to → IsLeft b whole schedule (next (tag_rules b) w p) (raised most p to (length ((next (tag_rules b) w p).lists p to)))
  unfolding changed
  send_left to e =
      let (tail, is, follows) = step_follows b p schedule w left.rest turn_enabled (λ from f. let no' : SendTo to ≡ Take from = sym e ∙ f in cc) left.follows in
      let r = subst (IsRun (tag_rules b) w) is left.is_run in
      let all : (x y : ℕ) → max (most x y) (max (length (w.lists x y)) (occupancy (tag_rules b) v tail x y)) ≡ whole x y = λ x y. subst (λ run. max (most x y) (occupancy (tag_rules b) w run x y) ≡ whole x y) is (left.over_all x y) in
      let each : Within b whole v tail (raised most p to (length (v.lists p to))) = λ x y. at tail x y ((x == p) && (y == to)) refl (all x y) in
      record { rest = tail; is_run = r.1; follows = follows; reached = λ x y. (each x y).0; over_all = λ x y. (each x y).1 }
    where
      v : World (LocalState DatumId) DatumId
      v = next (tag_rules b) w p

      kept_list : (x y : ℕ) → ((x == p) && (y == to)) ≡ false → length (v.lists x y) ≤ length (w.lists x y)
      kept_list x y off = subst (λ k. length ((state_after (tag_rules b) w p k).lists x y) ≤ length (w.lists x y)) (sym e) (unchanged off)
        where
          unchanged : ((x == p) && (y == to)) ≡ false → length (changed w.lists p to (appended (tag_rules b) p (w.locals p)) x y) ≤ length (w.lists x y)
          unchanged f = rw f (omega arith)

      at : (tail : List ℕ) (x y : ℕ) (c : Bool) → ((x == p) && (y == to)) ≡ c → max (most x y) (max (length (w.lists x y)) (occupancy (tag_rules b) v tail x y)) ≡ whole x y
          → (length (v.lists x y) ≤ cond c (max (most x y) (length (v.lists p to))) (most x y)) × (max (cond c (max (most x y) (length (v.lists p to))) (most x y)) (occupancy (tag_rules b) v tail x y) ≡ whole x y)
      at tail x y true on h =
          let (x-p, y-to) = and_parts (x == p) (y == to) on in
          let here : length (v.lists p to) ≡ length (v.lists x y) = λ i. length (v.lists (sym (eqb-true x p x-p) i) (sym (eqb-true y to y-to) i)) in
          let g = grown (most x y) (length (w.lists x y)) _ (whole x y) (length (v.lists x y)) (left.reached x y) (occupied_now (tag_rules b) v tail x y) h in
          rw here g
      at tail x y false off h = kept (most x y) _ _ (whole x y) _ (left.reached x y) (kept_list x y off) h
