-- The bars with one task more.
use Rattle.std.proofs.Common.{◌≡◌, ℕ, suc, ◌+◌, ◌*◌, ◌≤◌, Bool, true, false, cond, List, [], refl, arith, ◌∙◌, length}
use Rattle.std.specs.Prelude.{nat_eq, nat_lt, nat_le, ◌&&◌, ◌||◌, replicate, slice_index}
use Rattle.std.proofs.lemmas.List.{get_or-replicate, length-replicate}
use Rattle.pyr_graph.specs.declared.placement.Placement.{Placement}
use Rattle.pyr_graph.specs.declared.plan.Plan.{Plan}
use Rattle.pyr_graph.specs.Numbers.{numbers}
use Rattle.pyr_graph.proofs.NumberLemmas.{list_any-snoc}
use Rattle.pyr_graph.specs.Placements.{processor_of}
use Rattle.pyr_gantt.specs.declared.bars.TheConstants.{COLUMNS, BUSY, IDLE}
use Rattle.pyr_gantt.specs.Gantt.{runs_in, is_busy}
use Rattle.pyr_gantt.specs.Bars.{AreDrawn}
use Rattle.pyr_gantt.proofs.ColumnLemmas.{same-place}

-- without a task nothing is drawn
pub AreDrawn-start : (placement : Placement) (plan : Plan) (columns : List ℕ) → columns ≡ replicate (placement.processors * COLUMNS) IDLE → AreDrawn placement plan [] columns
AreDrawn-start placement plan columns are = record {
  full = rw are (length-replicate (placement.processors * COLUMNS) IDLE);
  each = λ p k p_in k_in. rw are (get_or-replicate (placement.processors * COLUMNS) (p * COLUMNS + k) IDLE 0 (omega arith));
}

drawn-more : (t u : Bool) → cond u BUSY (cond t BUSY IDLE) ≡ cond (t || u) BUSY IDLE
drawn-more true true = refl
drawn-more true false = refl
drawn-more false true = refl
drawn-more false false = refl

module _ (placement : Placement) (plan : Plan) (t first end : ℕ)
    (columns : (k : ℕ) → runs_in plan k t ≡ (nat_le first k && nat_lt k end)) (within : end ≤ COLUMNS) where
  pub AreDrawn-step : (old new : List ℕ) → length new ≡ length old
      → ((i : ℕ) → slice_index new i ≡ cond (nat_le (processor_of placement t * COLUMNS + first) i && nat_lt i (processor_of placement t * COLUMNS + end)) BUSY (slice_index old i))
      → AreDrawn placement plan (numbers t) old → AreDrawn placement plan (numbers (suc t)) new
  AreDrawn-step old new full marked drawn = record {
    full = full ∙ drawn.full;
    each = λ p k p_in k_in.
        marked (p * COLUMNS + k)
        ∙ (rw (
          same-place (processor_of placement t) p k first end k_in within,
          ← columns k,
          drawn.each p k p_in k_in,
          list_any-snoc (λ u. nat_eq (processor_of placement u) p && runs_in plan k u) (numbers t) t,
        )
        (drawn-more (is_busy placement plan (numbers t) p k) (nat_eq (processor_of placement t) p && runs_in plan k t)));
  }
