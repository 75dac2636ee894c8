-- The capacities by occupancy serve: the run is one with them too, and they are from 1 to the sends.
use Rattle.std.proofs.Common.{◌≡◌, ℕ, ◌≤◌, ◌==◌, ◌&&◌, Bool, true, false, cond, List, [], ◌∷◌, map, refl, sym, ◌∙◌, ap, subst, arith}
use Rattle.std.proofs.lemmas.Bool.{eqb-true, and_parts}
use Rattle.pyr_num.specs.declared.ids.DatumId.{DatumId}
use Rattle.pyr_net.specs.Net.{Rules, World}
use Rattle.pyr_net.specs.Run.{IsRun, end_of}
use Rattle.pyr_net.specs.Occupancy.{with_capacities as net_with, occupancy, RunsAsWell, Fits}
use Rattle.pyr_net.proofs.Occupied.{suffices, occupancy_fits, same_end}
use Rattle.pyr_bundle.specs.declared.capacity.Capacity.{Capacity}
use Rattle.pyr_bundle.specs.Parts.{Parts}
use Rattle.pyr_machine.specs.Machine.{LocalState, tags, tag_rules, start, capacity_in, capacity_of}
use Rattle.pyr_machine.specs.Good.{IsDone}
use Rattle.pyr_size.specs.Sizes.{resized, with_capacities, sized, SizedCompletes}
use Rattle.pyr_size.proofs.Turn.{follows_alike}

-- the capacity that is given for a pair is enough, where it is no more than the old one
enough : (f : ℕ → ℕ → ℕ) (cs : List Capacity) (p q : ℕ) → f p q ≤ capacity_in cs p q → f p q ≤ capacity_in (map (resized f) cs) p q
enough f [] p q h = h
enough f (c ∷ cs) p q h = at ((c.from.0 == p) && (c.to.0 == q)) refl h (enough f cs p q)
  where
    at : (t : Bool) → ((c.from.0 == p) && (c.to.0 == q)) ≡ t → f p q ≤ cond t c.capacity (capacity_in cs p q) → (f p q ≤ capacity_in cs p q → f p q ≤ capacity_in (map (resized f) cs) p q)
        → f p q ≤ cond t (f c.from.0 c.to.0) (capacity_in (map (resized f) cs) p q)
    at true is h ih =
        let (same_p, same_q) = and_parts (c.from.0 == p) (c.to.0 == q) is in
        let same : f c.from.0 c.to.0 ≡ f p q = λ i. f (eqb-true c.from.0 p same_p i) (eqb-true c.to.0 q same_q i) in
        rw same (omega arith)
    at false is h ih = ih h

-- other capacities change nothing else of the machine
pub rules_with : (b : Parts) (f : ℕ → ℕ → ℕ) → tag_rules (with_capacities b f) ≡ net_with (tag_rules b) (capacity_of (with_capacities b f))
rules_with b f = refl

pub fits_start : (b : Parts) → Fits (tag_rules b) start
fits_start b p q = omega arith

-- a run from the start never passes the old capacities
pub occupancy_le : (b : Parts) (run : List ℕ) (p q : ℕ) → IsRun (tag_rules b) start run → occupancy (tag_rules b) start run p q ≤ capacity_of b p q
occupancy_le b run p q r = occupancy_fits (tag_rules b) start run r (fits_start b) p q

pub sized_completes : SizedCompletes
sized_completes b schedule complete = record {
  run = complete.run;
  is_run = subst (λ (net : Rules (LocalState DatumId) DatumId). IsRun net start complete.run) (sym alike) well.is_run;
  follows = follows_alike b new (λ w run. sym (ends w run)) schedule start complete.run complete.follows;
  done = subst (IsDone (tags new) new) (sym (ends start complete.run)) done;
}
  where
    new : Parts
    new = sized b complete.run

    alike : tag_rules new ≡ net_with (tag_rules b) (capacity_of new)
    alike = rules_with b (occupancy (tag_rules b) start complete.run)

    well : RunsAsWell (tag_rules b) (net_with (tag_rules b) (capacity_of new)) start complete.run
    well = suffices (tag_rules b) start complete.run (capacity_of new) complete.is_run (λ p q. enough (occupancy (tag_rules b) start complete.run) b.channels p q (occupancy_le b complete.run p q complete.is_run))

    ends : (w : World (LocalState DatumId) DatumId) (run : List ℕ) → end_of (tag_rules new) w run ≡ end_of (tag_rules b) w run
    ends w run = ap (λ (net : Rules (LocalState DatumId) DatumId). end_of net w run) alike ∙ same_end (tag_rules b) w run (capacity_of new)

    done : IsDone (tags new) new (end_of (tag_rules b) start complete.run)
    done = record { complete = record { ended = complete.done.complete.ended; empty = complete.done.complete.empty }; stashes = complete.done.stashes }
