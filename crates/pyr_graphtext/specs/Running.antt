-- What one task does to the table of the words of all data, by number, and the room that it needs.
use Rattle.std.specs.Prelude.{◌≡◌, ℕ, ◌+◌, ◌<◌, ◌≤◌, List, [], ◌∷◌, All, length, map, replicate, sum_by, slice_index_or, slice_set}
use Rattle.pyr_graph.specs.System.{System, task_count, task_at, reads_of, writes_of, length_of}
use Rattle.pyr_seq.specs.Sequential.{Tasks}

-- the words of a datum
abbrev pub words_of : List (List ℕ) → ℕ → List ℕ
words_of table d = slice_index_or table d []

-- the words of these data, in order
abbrev pub inputs_from : List (List ℕ) → List ℕ → List (List ℕ)
inputs_from table = map (words_of table)

-- zeros for each of these data, as many as its length says
abbrev pub zeros_for : System → List ℕ → List (List ℕ)
zeros_for graph = map (λ d. replicate (length_of graph d) 0)

-- the lengths of these data together
abbrev pub lengths_of : System → List ℕ → ℕ
lengths_of graph = sum_by (length_of graph)

-- room for the lists of each task, and for their words
pub record HasRoom (graph : System) (slots words : ℕ) : Type 0 where
  pub slots_fit : (t : ℕ) → t < task_count graph
      → length (reads_of graph t) + length (writes_of graph t) ≤ slots
  pub words_fit : (t : ℕ) → t < task_count graph
      → lengths_of graph (reads_of graph t) + lengths_of graph (writes_of graph t) ≤ words

-- the data that the task reads have their words
abbrev pub AreReady : System → List (List ℕ) → ℕ → Type 0
AreReady graph table t =
    All (λ d. length (words_of table d.0) ≡ length_of graph d.0) (task_at graph t).reads

-- the table with these lists as the words of these data
abbrev pub stored : List ℕ → List (List ℕ) → List (List ℕ) → List (List ℕ)
stored [] lists table = table
stored (d ∷ ds) [] table = table
stored (d ∷ ds) (list ∷ lists) table = stored ds lists (slice_set table d list)

-- the table behind a task
abbrev pub table_behind : Tasks → ℕ → List (List ℕ) → List (List ℕ)
table_behind tasks t table =
    stored (tasks.writes t) (tasks.outputs t (inputs_from table (tasks.reads t))) table
