-- The run of a plan: in the plan's order, each task's processor makes all steps of its block.
use Rattle.std.specs.Prelude.{ℕ, List, length, map, slice_index}
use Rattle.std.specs.List.{flat_map, range_with_len}
use Rattle.pyr_graph.specs.declared.placement.Placement.{Placement}
use Rattle.pyr_graph.specs.declared.plan.Plan.{Plan}
use Rattle.pyr_graph.specs.System.{System, task_numbers}
use Rattle.pyr_graph.specs.WholeGraph.{IsGraph}
use Rattle.pyr_graphtext.specs.Program.{ProgramParts, IsProgram}
use Rattle.pyr_graph.specs.Placements.{processor_of}
use Rattle.pyr_rcp.specs.Order.{IsPlaced, IsOrdered}
use Rattle.pyr_bundle.specs.Parts.{Parts, raw_of}
use Rattle.pyr_machine.specs.Machine.{tags}
use Rattle.pyr_machine.specs.Schedule.{CompletesBy}
use Rattle.pyr_emit.specs.Emission.{IsEmission, block_at}
use Rattle.pyr_size.specs.Sizes.{sized}

-- the processor of the task at a place of the order, once for each instruction of its block
abbrev pub turns_at : System → Placement → List ℕ → ℕ → List ℕ
turns_at s placement order i =
    map (λ instr. processor_of placement (slice_index order i)) (block_at s placement order i)

-- the processors of all instructions, block by block in the plan's order
abbrev pub plan_schedule : System → Placement → List ℕ → List ℕ
plan_schedule s placement order =
    flat_map (turns_at s placement order) (range_with_len 0 (length order))

-- The plan's run is a complete run of the tag machine: it follows the blocks in the plan's order, and
-- ends with every processor at its code's end, and all channels and stashes empty.
abbrev pub PlanCompletes : ProgramParts → Placement → Plan → Parts → Type 0
PlanCompletes program placement plan b =
    CompletesBy (tags b) b (plan_schedule program.graph placement (task_numbers plan.order))

-- the run of every plan of a program is complete, whoever made its bundle
abbrev pub PlansComplete : Type 0
PlansComplete =
    (program : ProgramParts) (placement : Placement) (plan : Plan) (b : Parts) → IsProgram program
    → IsGraph program.graph → IsPlaced program.graph placement
    → IsOrdered program.graph placement plan → IsEmission program placement plan (raw_of b)
    → PlanCompletes program placement plan b

-- and stays so with the occupancies along it as capacities
abbrev pub SizedPlansComplete : Type 0
SizedPlansComplete =
    (program : ProgramParts) (placement : Placement) (plan : Plan) (b : Parts)
    (complete : PlanCompletes program placement plan b)
    → PlanCompletes program placement plan (sized b complete.run)
