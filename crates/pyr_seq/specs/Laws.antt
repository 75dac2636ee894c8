-- What holds of every list of tasks, and of every relation on them.
use Rattle.std.specs.Prelude.{◌≡◌, ℕ, ◌<◌, Bool, IsTrue, Some, List, All, Contains, length, map}
use Rattle.pyr_seq.specs.Walk.{IsCycle, IsTopological}
use Rattle.pyr_seq.specs.Sequential.{Tasks, values, value_of, IsEdgeOf, HasOneWriter, Solves}

-- A relation with a topological order has no cycle. The relation is given by its test.
abbrev pub OrderedRelationsHaveNoCycle : Type 0
OrderedRelationsHaveNoCycle =
    (count : ℕ) (is_edge : ℕ → ℕ → Bool) (order cycle : List ℕ)
    → IsTopological count (λ a b. IsTrue (is_edge a b)) order
    → All (λ t. t < count) cycle → IsCycle (λ a b. IsTrue (is_edge a b)) cycle → ⊥

-- tasks with a topological order have no cycle of edges
abbrev pub OrderedTasksHaveNoCycle : Type 0
OrderedTasksHaveNoCycle =
    (tasks : Tasks) (order cycle : List ℕ) → IsTopological tasks.count (IsEdgeOf tasks) order
    → All (λ t. t < tasks.count) cycle → IsCycle (IsEdgeOf tasks) cycle → ⊥

-- any two topological orders give the same values
abbrev pub AnyOrderGivesTheValues : Type 0
AnyOrderGivesTheValues =
    (tasks : Tasks) (order other : List ℕ) → HasOneWriter tasks
    → IsTopological tasks.count (IsEdgeOf tasks) order
    → IsTopological tasks.count (IsEdgeOf tasks) other
    → (d : ℕ) → values tasks order d ≡ values tasks other d

-- the values solve the equation of each task
abbrev pub ValuesSolveEachTask : Type 0
ValuesSolveEachTask =
    (tasks : Tasks) (order : List ℕ) → HasOneWriter tasks
    → IsTopological tasks.count (IsEdgeOf tasks) order
    → (t : ℕ) → t < tasks.count → Solves tasks (values tasks order) t

-- whatever the inputs, the task makes lists of the lengths of the data that it writes
abbrev pub MakesLengths : Tasks → (ℕ → ℕ) → Type 0
MakesLengths tasks length_of =
    (t : ℕ) (inputs : List (List ℕ)) → t < tasks.count
    → map length (tasks.outputs t inputs) ≡ map length_of (tasks.writes t)

-- each datum that is written has a value, of its length
abbrev pub ValuesHaveLengths : Type 0
ValuesHaveLengths =
    (tasks : Tasks) (length_of : ℕ → ℕ) (order : List ℕ) → HasOneWriter tasks
    → IsTopological tasks.count (IsEdgeOf tasks) order → MakesLengths tasks length_of
    → (t d : ℕ) → t < tasks.count → Contains (tasks.writes t) d
    → (values tasks order d ≡ Some (value_of tasks order d))
    × (length (value_of tasks order d) ≡ length_of d)
