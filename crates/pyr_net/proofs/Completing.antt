-- What a complete run says of every other run from the same start.
use Rattle.std.proofs.Common.{◌≡◌, ℕ, ◌≤◌, List, [], ◌∷◌, ◌++◌, length, length-append, append-nil, sym, ◌∙◌, ap, subst, ◌⊎◌, inl, inr, arith}
use Rattle.pyr_net.specs.Net.{Rules, World, IsEnabled, next}
use Rattle.pyr_net.specs.Run.{IsRun, end_of, HasStep, IsEnded, IsCompleteRun}
use Rattle.pyr_net.proofs.Exchange.{completes, ended_stops}

-- the next step of a run
pub next_of : {L P : Type 0} (net : Rules L P) (w : World L P) (run : List ℕ) (p : ℕ)
    (rest : List ℕ) → IsRun net w (run ++ p ∷ rest) → IsEnabled net (end_of net w run) p
next_of net w [] p rest r = r.0
next_of net w (q ∷ run) p rest r = next_of net (next net w q) run p rest r.1

module _ {L P : Type 0} (net : Rules L P) (w : World L P) (run : List ℕ)
    (c : IsCompleteRun net w run) (other : List ℕ) (o : IsRun net w other) where
  -- where it isn't ended, it has a next step
  pub unended_goes_on : ¬ IsEnded net (end_of net w other) → HasStep net (end_of net w other)
  unended_goes_on unfinished =
      let k = completes net w run other c o in at k.rest k.complete
    where
      at : (rest : List ℕ) → IsCompleteRun net w (other ++ rest) → HasStep net (end_of net w other)
      at [] k =
          absurd (unfinished (subst (λ xs. IsEnded net (end_of net w xs)) (append-nil other) k.complete.ended))
      at (p ∷ rest) k = (p, next_of net w other p rest k.is_run)

  -- it is no longer
  pub is_bounded : length other ≤ length run
  is_bounded =
      let k = completes net w run other c o in
      let s : length (other ++ k.rest) ≡ length run = k.steps in
      let l = length-append other k.rest in
      omega arith

  -- and where it is ended, it is as long, with the same end
  pub ended_alike : IsEnded net (end_of net w other) →
      (length other ≡ length run) × (end_of net w other ≡ end_of net w run)
  ended_alike ended =
      let k = completes net w run other c o in at k.rest k.complete.is_run k.steps k.ends
    where
      at : (rest : List ℕ) → IsRun net w (other ++ rest) → length (other ++ rest) ≡ length run →
          end_of net w (other ++ rest) ≡ end_of net w run →
          (length other ≡ length run) × (end_of net w other ≡ end_of net w run)
      at [] r s e =
          let n = append-nil other in
          (ap length (sym n) ∙ s, ap (end_of net w) (sym n) ∙ e)
      at (p ∷ rest) r s e =
          absurd (ended_stops net (end_of net w other) ended p (next_of net w other p rest r))
