-- All longest runs end in one state.
use Rattle.std.proofs.Common.{◌≡◌, ℕ, List, [], ◌∷◌, ◌++◌, length, refl, sym, ◌∙◌, subst}
use Rattle.pyr_net.specs.Net.{Rules, World, next}
use Rattle.pyr_net.specs.Run.{IsRun, end_of, HasNoStep, IsEnded, IsOutcome}
use Rattle.pyr_net.proofs.Exchange.{ended_stops}
use Rattle.pyr_net.proofs.Reach.{outcome}
use Rattle.pyr_machine.proofs.Ends.{ended_is}

module _ {L P : Type 0} (net : Rules L P) where
  stays : (w : World L P) (run rest : List ℕ) → IsRun net w (run ++ rest) → HasNoStep net (end_of net w run) → end_of net w (run ++ rest) ≡ end_of net w run
  stays w [] [] r dead = refl
  stays w [] (p ∷ rest) r dead = absurd (dead p r.0)
  stays w (p ∷ run) rest r dead = stays (next net w p) run rest r.1 dead

  pub one_outcome : (w z y : World L P) (n m : ℕ) → IsOutcome net w n z → IsOutcome net w m y → z ≡ y
  one_outcome w z y n m o h =
      let r = o.reached in
      let g = h.every r.run r.is_run in
      sym r.ends ∙ sym (stays w r.run g.rest g.is_run (subst (HasNoStep net) (sym r.ends) o.stopped)) ∙ g.ends

  -- a run to an ended state is a longest one
  pub ended_outcome : (w : World L P) (run : List ℕ) → IsRun net w run → IsEnded net (end_of net w run) → IsOutcome net w (length run) (end_of net w run)
  ended_outcome w run r ended =
      outcome net w (end_of net w run) (length run) (record { run = run; is_run = r; steps = refl; ends = refl }) (ended_stops net (end_of net w run) ended)

  -- all runs to ended states end alike
  pub one_ended : (w : World L P) (run other : List ℕ) → IsRun net w run → IsEnded net (end_of net w run) → IsRun net w other → IsEnded net (end_of net w other) → end_of net w run ≡ end_of net w other
  one_ended w run other r ended o over =
      ended_is net w (end_of net w other) (length other) (ended_outcome w other o over) run r ended
