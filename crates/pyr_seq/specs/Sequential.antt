-- Tasks run one by one over a map from data to words: the sequential meaning.
use Rattle.std.specs.Prelude.{◌≡◌, ℕ, ◌<◌, if◌then◌else◌, Option, Some, None, List, [], ◌∷◌, nat_eq, unwrap_or, map, Contains}
use Rattle.std.specs.List.{list_any}

-- what each task reads and writes, and the lists of words that it makes of its inputs
pub record Tasks : Type 0 where
  pub count : ℕ
  pub reads : ℕ → List ℕ
  pub writes : ℕ → List ℕ
  pub outputs : ℕ → List (List ℕ) → List (List ℕ)

-- a map from data to words
abbrev pub Store : Type 0
Store = ℕ → Option (List ℕ)

-- what the task looks up: the words of each datum that it reads, in order
abbrev pub inputs_of : Tasks → Store → ℕ → List (List ℕ)
inputs_of tasks store t = map (λ d. unwrap_or (store d) []) (tasks.reads t)

-- the words that stand at a datum's place among the data written
abbrev pub entry_at : List ℕ → List (List ℕ) → ℕ → Option (List ℕ)
entry_at [] words d = None
entry_at (w ∷ written) [] d = None
entry_at (w ∷ written) (list ∷ words) d = if nat_eq d w then Some list else entry_at written words d

-- the task looks up its reads and adds its writes
abbrev pub run_task : Tasks → ℕ → Store → Store
run_task tasks t store d =
    if list_any (nat_eq d) (tasks.writes t)
    then entry_at (tasks.writes t) (tasks.outputs t (inputs_of tasks store t)) d
    else store d

-- the tasks run in this order
abbrev pub run_all : Tasks → List ℕ → Store → Store
run_all tasks [] store = store
run_all tasks (t ∷ rest) store = run_all tasks rest (run_task tasks t store)

-- the last store, where the tasks run in this order from the empty store
abbrev pub values : Tasks → List ℕ → Store
values tasks order = run_all tasks order (λ _. None)

-- the words of a datum in the last store
abbrev pub value_of : Tasks → List ℕ → ℕ → List ℕ
value_of tasks order d = unwrap_or (values tasks order d) []

-- the words of these data in the last store, in order
abbrev pub outputs_of : Tasks → List ℕ → List ℕ → List (List ℕ)
outputs_of tasks order prints = map (value_of tasks order) prints

-- there is an edge (a, b) where b reads a datum that a writes
abbrev pub IsEdgeOf : Tasks → ℕ → ℕ → Type 0
IsEdgeOf tasks a b = (d : ℕ) × Contains (tasks.writes a) d × Contains (tasks.reads b) d

-- no two tasks write one datum
abbrev pub HasOneWriter : Tasks → Type 0
HasOneWriter tasks =
    (a b d : ℕ) → a < tasks.count → b < tasks.count
    → Contains (tasks.writes a) d → Contains (tasks.writes b) d → a ≡ b

-- the task's equation: what it writes is what it makes of what it reads
abbrev pub Solves : Tasks → Store → ℕ → Type 0
Solves tasks store t =
    (d : ℕ) → Contains (tasks.writes t) d
    → store d ≡ entry_at (tasks.writes t) (tasks.outputs t (inputs_of tasks store t)) d
