-- Channel capacities by occupancy: as long as each channel gets along the run that makes the blocks
-- of the tasks one after another.
use Rattle.std.specs.Prelude.{◌≡◌, ℕ, List, map}
use Rattle.pyr_net.specs.Occupancy.{occupancy}
use Rattle.pyr_bundle.specs.declared.capacity.Capacity.{Capacity}
use Rattle.pyr_bundle.specs.Parts.{Parts}
use Rattle.pyr_machine.specs.Machine.{tags, tag_rules, start}
use Rattle.pyr_machine.specs.Schedule.{CompletesBy}
use Rattle.pyr_size.specs.Blocks.{order_schedule}

-- a channel with the capacity that is given for its two processors
abbrev pub resized : (ℕ → ℕ → ℕ) → Capacity → Capacity
resized capacity c = record c { capacity = capacity c.from.0 c.to.0 }

-- the bundle with such a capacity for each channel
abbrev pub with_capacities : Parts → (ℕ → ℕ → ℕ) → Parts
with_capacities b capacity = record b { channels = map (resized capacity) b.channels }

-- the bundle with the occupancy along this run as the capacity of each channel
abbrev pub sized : Parts → List ℕ → Parts
sized b run = with_capacities b (occupancy (tag_rules b) start run)

-- a run that follows this schedule is complete, with data in place of words
abbrev pub Completes : Parts → List ℕ → Type 0
Completes b schedule = CompletesBy (tags b) b schedule

-- These are the channels of the bundle, each with its occupancy along the run that makes, task by
-- task in this order, all steps of the block of the task. That run is complete.
pub record AreSizes (b : Parts) (order : List ℕ) (capacities : List Capacity) : Type 0 where
  pub complete : Completes b (order_schedule b order)
  pub are : capacities ≡ (sized b complete.run).channels

-- Where a run follows a schedule and is complete, it is so with the occupancies along it as
-- capacities too.
abbrev pub SizedCompletes : Type 0
SizedCompletes =
    (b : Parts) (schedule : List ℕ) (complete : Completes b schedule)
    → Completes (sized b complete.run) schedule
