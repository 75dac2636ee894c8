-- The Gantt report: the greatest finish, the times of each task, and a bar for each processor.
use Rattle.std.specs.Prelude.{ℕ, ◌+◌, ◌*◌, Bool, ◌&&◌, if◌then◌else◌, List, ◌∷◌, ◌++◌, nat_eq, nat_lt, codes, decimal, map, slice_index}
use Rattle.std.specs.List.{flat_map, list_any}
use Rattle.pyr_graph.specs.declared.placement.Placement.{Placement}
use Rattle.pyr_graph.specs.declared.plan.Plan.{Plan}
use Rattle.pyr_graph.specs.Numbers.{numbers, greatest}
use Rattle.pyr_graph.specs.System.{task_count}
use Rattle.pyr_graphtext.specs.Program.{ProgramParts, task_name}
use Rattle.pyr_graph.specs.Placements.{processor_of}
use Rattle.pyr_gantt.specs.declared.bars.TheConstants.{COLUMNS, BUSY, IDLE}

-- the start and the finish of a task
abbrev pub start_of : Plan → ℕ → ℕ
start_of plan t = slice_index plan.start t

abbrev pub finish_of : Plan → ℕ → ℕ
finish_of plan t = slice_index plan.finish t

-- the greatest finish
abbrev pub time_of : Plan → ℕ
time_of plan = greatest (λ finish. finish) plan.finish

-- a task: its name, its processor, its start and its finish
abbrev pub task_line : ProgramParts → Placement → Plan → ℕ → List ℕ
task_line program placement plan t =
    task_name program t ++ 32 ∷ decimal (processor_of placement t)
    ++ 32 ∷ decimal (start_of plan t) ++ 32 ∷ decimal (finish_of plan t) ++ codes "\n"

-- Whether a task runs in column k. The columns share the time between them evenly: column k goes
-- from k to k + 1 of as many parts of the time as there are columns.
abbrev pub runs_in : Plan → ℕ → ℕ → Bool
runs_in plan k t =
    nat_lt (start_of plan t * COLUMNS) ((k + 1) * time_of plan)
    && nat_lt (k * time_of plan) (finish_of plan t * COLUMNS)

-- whether some of these tasks is on processor p and runs in column k
abbrev pub is_busy : Placement → Plan → List ℕ → ℕ → ℕ → Bool
is_busy placement plan tasks p k =
    list_any (λ t. nat_eq (processor_of placement t) p && runs_in plan k t) tasks

-- the bar of a processor: a mark for each column
unfoldable pub bar : Placement → Plan → List ℕ → ℕ → List ℕ
bar placement plan tasks p =
    map (λ k. if is_busy placement plan tasks p k then BUSY else IDLE) (numbers COLUMNS)

-- a processor: its number and its bar
abbrev pub bar_line : Placement → Plan → List ℕ → ℕ → List ℕ
bar_line placement plan tasks p =
    decimal p ++ 32 ∷ bar placement plan tasks p ++ codes "\n"

-- the greatest finish, a line for each task, and a line for each processor
abbrev pub gantt_report : ProgramParts → Placement → Plan → List ℕ
gantt_report program placement plan =
    codes "time" ++ 32 ∷ decimal (time_of plan) ++ codes "\n"
    ++ flat_map (task_line program placement plan) (numbers (task_count program.graph))
    ++ flat_map (bar_line placement plan (numbers (task_count program.graph)))
    (numbers placement.processors)
