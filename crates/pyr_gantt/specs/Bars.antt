-- What the bars are made from. No public clause cites this.
use Rattle.std.specs.Prelude.{◌≡◌, ℕ, ◌+◌, ◌*◌, ◌<◌, ◌≤◌, if◌then◌else◌, List, length, All, slice_index}
use Rattle.pyr_graph.specs.declared.placement.Placement.{Placement}
use Rattle.pyr_graph.specs.declared.plan.Plan.{Plan}
use Rattle.pyr_levels.specs.Levels.{longest}
use Rattle.pyr_gantt.specs.declared.bars.TheConstants.{COLUMNS, BUSY, IDLE}
use Rattle.pyr_gantt.specs.Gantt.{start_of, finish_of, time_of, is_busy}

-- the lists of a plan and of its placement are full, and its times are in order and not late
pub record IsTimed (tasks : ℕ) (placement : Placement) (plan : Plan) : Type 0 where
  pub placed : length placement.of ≡ tasks
  pub starts : length plan.start ≡ tasks
  pub finishes : length plan.finish ≡ tasks
  pub below : All (λ p. p.0 < placement.processors) placement.of
  pub in_order : (t : ℕ) → start_of plan t ≤ finish_of plan t
  pub late : (t : ℕ) → finish_of plan t ≤ time_of plan
  pub small : time_of plan ≤ longest
  pub some : 0 < time_of plan

-- the columns of all processors one after another, where these tasks are drawn
pub record AreDrawn (placement : Placement) (plan : Plan) (tasks : List ℕ) (columns : List ℕ) :
    Type 0 where
  pub full : length columns ≡ placement.processors * COLUMNS
  pub each : (p k : ℕ) → p < placement.processors → k < COLUMNS
      → slice_index columns (p * COLUMNS + k)
      ≡ (if is_busy placement plan tasks p k then BUSY else IDLE)
