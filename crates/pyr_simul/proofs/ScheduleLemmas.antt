-- The simulated times are a schedule: starts rise along the links of the simulated graph.
use Rattle.std.proofs.Common.{◌≡◌, ◌≢◌, ℕ, ◌+◌, ◌<◌, ◌≤◌, ◌⊎◌, inl, inr, true, List, length, arith, refl, sym, ◌∙◌, ap}
use Rattle.std.specs.Prelude.{slice_index}
use Rattle.std.proofs.lemmas.Bool.{cases_lt, cases_eq}
use Rattle.std.proofs.lemmas.Grind.{get_or_default_zero}
use Rattle.std.proofs.lemmas.List.Elements.{All-contains}
use Rattle.pyr_seq.specs.Walk.{IsTopological}
use Rattle.pyr_graph.specs.declared.placement.Placement.{Placement}
use Rattle.pyr_graph.specs.Placements.{processor_of}
use Rattle.pyr_graph.specs.System.{System, task_count, IsEdge}
use Rattle.pyr_graph.proofs.ListLemmas.{Contains-tested, tested-Contains}
use Rattle.pyr_graph.specs.Numbers.{holds}
use Rattle.pyr_levels.proofs.Paths.{IsTlevel-link}
use Rattle.pyr_levels.proofs.FollowsLemmas.{Follows-holds}
use Rattle.pyr_levels.proofs.KeyedLemmas.{keyed, keyed-held, held-keyed, Follows-first, in-order}
use Rattle.pyr_rcp.specs.Order.{IsPlaced}
use Rattle.pyr_simul.specs.declared.durations.Durations.{Durations}
use Rattle.pyr_simul.specs.declared.times.Times.{Times}
use Rattle.pyr_simul.specs.Durations.{time_of}
use Rattle.pyr_simul.specs.Bound.{IsSchedule}
use Rattle.pyr_simul.specs.Simulated.{simulated_graph, AreSimulated}

module _ (s : System) (placement : Placement) (order : List ℕ) (d : Durations) (times : Times)
    (placed : IsPlaced s placement) (top : IsTopological (task_count s) (IsEdge s) order) (are : AreSimulated s placement order d times) where
  rises : (a b : ℕ) → a < task_count s → b < task_count s → (simulated_graph s placement order d).IsLink a b → slice_index times.start a + time_of d a ≤ slice_index times.start b
  rises a b a_in b_in link =
      let rise = IsTlevel-link (simulated_graph s placement order d) a b _ _ a_in b_in link (are.starts a a_in) (are.starts b b_in) in
      omega (arith, rise)

  -- the tasks of one processor, in their order
  abbrev tasks : ℕ → List ℕ
  tasks p = keyed (processor_of placement) order p

  task-of : (p t : ℕ) → holds (tasks p) t ≡ true → t < task_count s
  task-of p t held = All-contains (λ u. u < task_count s) order t top.tasks (Contains-tested t order (keyed-held (processor_of placement) order p t held).0)

  one-by-one : (p i j : ℕ) → i < j → j < length (tasks p) → slice_index times.start (slice_index (tasks p) i) + time_of d (slice_index (tasks p) i) ≤ slice_index times.start (slice_index (tasks p) j)
  one-by-one p i j less inside = in-order (slice_index times.start) (time_of d) (tasks p)
      (λ a b follows. rises a b (task-of p a (Follows-first (tasks p) a b follows)) (task-of p b (Follows-holds (tasks p) a b follows)) (inr (p, follows)))
      i j less inside

  place-of : (t : ℕ) → t < task_count s → (i : ℕ) × (i < length (tasks (processor_of placement t))) × (slice_index (tasks (processor_of placement t)) i ≡ t)
  place-of t t_in =
      let held = held-keyed (processor_of placement) order (processor_of placement t) t (tested-Contains t order (top.each t t_in)) refl in
      let (i, inside, here) = Contains-tested t (tasks (processor_of placement t)) held in
      (i, inside, sym (get_or_default_zero (tasks (processor_of placement t)) i t inside) ∙ here)

  apart : (a b : ℕ) → a < task_count s → b < task_count s → a ≢ b → processor_of placement a ≡ processor_of placement b
      → (slice_index times.start a + time_of d a ≤ slice_index times.start b) ⊎ (slice_index times.start b + time_of d b ≤ slice_index times.start a)
  apart a b a_in b_in other same =
      let p = processor_of placement b in
      let (i, i_in, at_a) = rw same at (place-of a a_in) in
      let (j, j_in, at_b) = place-of b b_in in
      elim (cases_lt i j) [
        | inl less ↦ inl (rw (at_a, at_b) at (one-by-one p i j less j_in))
        | inr more ↦ elim (cases_eq i j) [
          | inl here ↦ absurd (other (sym at_a ∙ (ap (slice_index (tasks p)) here ∙ at_b)))
          | inr not ↦ inr (rw (at_a, at_b) at (one-by-one p j i (omega (arith, more, not)) i_in))
        ]
      ]

  pub IsSchedule-from_simulated : IsSchedule s d placement.processors (slice_index times.start) (processor_of placement)
  IsSchedule-from_simulated = record {
    inside = λ t t_in. placed.below t (record { 0 = 0 }) (omega (arith, t_in, placed.full));
    apart = apart;
    after = λ a b a_in b_in edge. rises a b a_in b_in (inl edge);
  }
