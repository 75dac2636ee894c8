-- The limits of a graph: which rows of the table it passes, and what holds where it passes none.
use Rattle.std.specs.Prelude.{ℕ, ◌*◌, ◌≤◌, Bool, false, ◌||◌, Option, List, [], ◌∷◌, nat_lt, All, find, length, sum_by}
use Rattle.std.specs.List.{list_any}
use Rattle.pyr_num.specs.declared.limits.Quantity.{Quantity}
use Rattle.pyr_num.specs.declared.limits.Quantity.TheVariants.{Tasks, Datums, Length, Comm, Cost, Reads, AllReads, Writes, Prints}
use Rattle.pyr_num.specs.declared.limits.TheConstants.Limits.{TASKS, DATUMS, LEAST_LENGTH, LENGTH, COMM, LEAST_COST, COST, READS, ALL_READS, WRITES, PRINTS}
use Rattle.pyr_graph.specs.System.{System, task_count, datum_count, cost_of, reads_of, writes_of, comm_of, weight_of}

-- whether the number lies outside this range
abbrev pub is_outside : ℕ → ℕ → ℕ → Bool
is_outside least most n = nat_lt n least || nat_lt most n

-- whether the system passes the limit on this quantity
abbrev pub passes : System → Quantity → Bool
passes s Tasks = nat_lt TASKS (task_count s)
passes s Datums = nat_lt DATUMS (datum_count s)
passes s Length = list_any (λ d. is_outside LEAST_LENGTH LENGTH d.length) s.datums
passes s Comm = list_any (λ d. nat_lt COMM d.comm) s.datums
passes s Cost = list_any (λ t. is_outside LEAST_COST COST t.cost) s.tasks
passes s Reads = list_any (λ t. nat_lt READS (length t.reads)) s.tasks
passes s AllReads = nat_lt ALL_READS (sum_by (λ t. length t.reads) s.tasks)
passes s Writes = list_any (λ t. nat_lt WRITES (length t.writes)) s.tasks
passes s Prints = nat_lt PRINTS (length s.prints)
passes s _ = false

-- the quantities of a graph, in the order of the table
abbrev pub rows : List Quantity
rows = Tasks ∷ Datums ∷ Length ∷ Comm ∷ Cost ∷ Reads ∷ AllReads ∷ Writes ∷ Prints ∷ []

-- the first limit that the system passes
abbrev pub first_passed : System → Option Quantity
first_passed s = find (passes s) rows

-- every number is within its limits
pub record IsWithinLimits (s : System) : Type 0 where
  pub tasks : task_count s ≤ TASKS
  pub datums : datum_count s ≤ DATUMS
  pub lengths : All (λ d. (LEAST_LENGTH ≤ d.length) × (d.length ≤ LENGTH)) s.datums
  pub comms : (d : ℕ) → comm_of s d ≤ COMM
  pub least_costs : All (λ t. LEAST_COST ≤ t.cost) s.tasks
  pub costs : (t : ℕ) → cost_of s t ≤ COST
  pub reads : (t : ℕ) → length (reads_of s t) ≤ READS
  pub all_reads : sum_by (λ t. length t.reads) s.tasks ≤ ALL_READS
  pub writes : (t : ℕ) → length (writes_of s t) ≤ WRITES
  pub prints : length s.prints ≤ PRINTS
  pub weights : (a b : ℕ) → weight_of s a b ≤ READS * COMM
