-- What is still to come in a net that has a complete run: nothing to an actor that has ended, and
-- something from one that has ended to one that waits for it.
use Rattle.std.proofs.Common.{◌≡◌, ℕ, zero, suc, ◌<◌, List, [], ◌∷◌, ◌++◌, length, append-nil, refl, sym, ◌∙◌, ap, subst}
use Rattle.pyr_net.specs.Net.{Rules, World, action_at, next}
use Rattle.pyr_net.specs.Run.{IsRun, end_of, IsCompleteRun}
use Rattle.pyr_net.specs.Alone.{Alone, CanAlone, IsLocalRun, local_end, local_sent, sent_in, steps_of, seen_by, RunsLocally}
use Rattle.pyr_net.specs.Pipeline.{IsReached}
use Rattle.pyr_net.specs.declared.action.Action.TheVariants.{Take, Ended}
use Rattle.pyr_net.proofs.Exchange.{goes_on, ended_stops}
use Rattle.pyr_net.proofs.Locally.{locally}

-- the later part of a run is a run from where the earlier one ends
pub later_run : {L P : Type 0} (net : Rules L P) (w : World L P) (xs ys : List ℕ) →
    IsRun net w (xs ++ ys) → IsRun net (end_of net w xs) ys
later_run net w [] ys r = r
later_run net w (x ∷ xs) ys r = later_run net (next net w x) xs ys r.1

-- and ends where the whole ends
pub later_end : {L P : Type 0} (net : Rules L P) (w : World L P) (xs ys : List ℕ) →
    end_of net w (xs ++ ys) ≡ end_of net (end_of net w xs) ys
later_end net w [] ys = refl
later_end net w (x ∷ xs) ys = later_end net (next net w x) xs ys

-- Actor p makes no step in a run from z: it stands where it stood, what is on its way to it stays
-- there, and it sends nothing.
pub record StaysAt {L P : Type 0} (net : Rules L P) (z : World L P) (rest : List ℕ) (p : ℕ)
    : Type 0 where
  pub local : z.locals p ≡ (end_of net z rest).locals p
  pub comes : (q : ℕ) → z.lists q p ++ sent_in net z rest q p ≡ (end_of net z rest).lists q p
  pub sends : (q : ℕ) → sent_in net z rest p q ≡ []

-- so it is with an actor of which no step is in the run
stays : {L P : Type 0} (net : Rules L P) (z : World L P) (rest : List ℕ) (p : ℕ) →
    RunsLocally net z rest p → steps_of p rest ≡ 0 → StaysAt net z rest p
stays {L} {P} net z rest p h e = record {
  local = ap (λ (a : Alone L P). a.local) ends;
  comes = λ q. ap (λ (a : Alone L P). a.inbox q) ends ∙ append-nil _;
  sends = λ q. sym (subst (Sends q) e (h.sends q));
}
  where
    Ends : ℕ → Type 0
    Ends m = local_end net p m (seen_by net z rest p) ≡ seen_by net (end_of net z rest) [] p

    Sends : ℕ → ℕ → Type 0
    Sends q m = local_sent net p m (seen_by net z rest p) q ≡ sent_in net z rest p q

    ends : seen_by net z rest p ≡ seen_by net (end_of net z rest) [] p
    ends = subst Ends e h.ends

-- and with one that has ended
pub ended_stays : {L P : Type 0} (net : Rules L P) (z : World L P) (rest : List ℕ) (p : ℕ) →
    IsRun net z rest → action_at net z p ≡ Ended → StaysAt net z rest p
ended_stays {L} {P} net z rest p r e =
    let h = locally net z rest p r in
    stays net z rest p h (none (steps_of p rest) h.is_run)
  where
    none : (m : ℕ) → IsLocalRun net p m (seen_by net z rest p) → m ≡ 0
    none zero i = refl
    none (suc m) i = absurd (subst (λ k. CanAlone k (seen_by net z rest p)) e i.0)

-- the end of a complete run is reached from each state that is reached
pub remainder : {L P : Type 0} (net : Rules L P) (w z : World L P) (run : List ℕ) →
    IsCompleteRun net w run → IsReached net w z → IsReached net z (end_of net w run)
remainder net w z run c h =
    let dead = ended_stops net (end_of net w run) c.complete.ended in
    let g = goes_on net w run h.run c.is_run dead h.is_run in
    record {
      run = g.rest;
      is_run = subst (λ v. IsRun net v g.rest) h.ends (later_run net w h.run g.rest g.is_run);
      ends =
          ap (λ v. end_of net v g.rest) (sym h.ends)
          ∙ sym (later_end net w h.run g.rest)
          ∙ g.ends;
    }

nothing_left : {P : Type 0} (xs ys : List P) → xs ++ ys ≡ [] → xs ≡ []
nothing_left [] ys e = refl
nothing_left (x ∷ xs) ys e = absurd (cc)

-- nothing is on its way to an actor that has ended
pub drained : {L P : Type 0} (net : Rules L P) (w z : World L P) (run : List ℕ) (q p : ℕ) →
    IsCompleteRun net w run → IsReached net w z → p < net.actors → q < net.actors →
    action_at net z p ≡ Ended → z.lists q p ≡ []
drained net w z run q p c h hp hq e =
    let g = remainder net w z run c h in
    let s = ended_stays net z g.run p g.is_run e in
    nothing_left (z.lists q p) _
    (s.comes q ∙ ap (λ v. v.lists q p) g.ends ∙ c.complete.empty q p hq hp)

-- and it stands where it stands at the end
pub ended_local : {L P : Type 0} (net : Rules L P) (w z : World L P) (run : List ℕ) (p : ℕ) →
    IsCompleteRun net w run → IsReached net w z → action_at net z p ≡ Ended →
    z.locals p ≡ (end_of net w run).locals p
ended_local net w z run p c h e =
    let g = remainder net w z run c h in
    let s = ended_stays net z g.run p g.is_run e in
    s.local ∙ ap (λ v. v.locals p) g.ends

-- where p waits for a parcel from q, and q has ended, one is on its way
pub is_coming : {L P : Type 0} (net : Rules L P) (w z : World L P) (run : List ℕ) (q p : ℕ) →
    IsCompleteRun net w run → IsReached net w z → p < net.actors →
    action_at net z p ≡ Take q → action_at net z q ≡ Ended → 0 < length (z.lists q p)
is_coming {L} {P} net w z run q p c h hp takes e =
    let h' = locally net z g.run p g.is_run in
    comes (steps_of p g.run) refl h'.is_run
  where
    g : IsReached net z (end_of net w run)
    g = remainder net w z run c h

    nothing : sent_in net z g.run q p ≡ []
    nothing = (ended_stays net z g.run q g.is_run e).sends p

    comes : (m : ℕ) → steps_of p g.run ≡ m → IsLocalRun net p m (seen_by net z g.run p) →
        0 < length (z.lists q p)
    comes zero s i =
        let l = (stays net z g.run p (locally net z g.run p g.is_run) s).local in
        let k : action_at net z p ≡ Ended =
        ap (net.action p) l
        ∙ ap (λ v. action_at net v p) g.ends
        ∙ c.complete.ended p hp in
        let no : Take q ≡ Ended = sym takes ∙ k in
        absurd (cc)
    comes (suc m) s i =
        let some = subst (λ k. CanAlone k (seen_by net z g.run p)) takes i.0 in
        let none = ap (λ xs. z.lists q p ++ xs) nothing ∙ append-nil (z.lists q p) in
        subst (λ (xs : List P). 0 < length xs) none some
