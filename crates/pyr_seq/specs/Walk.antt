-- Walks, cycles and topological orders of a relation on tasks. A task is its number.
use Rattle.std.specs.Prelude.{◌≡◌, ℕ, ◌<◌, List, [], ◌∷◌, ◌++◌, All, Contains, length, slice_index}

-- a list of one or more tasks, each with an edge to the next
abbrev pub IsWalk : (ℕ → ℕ → Type 0) → List ℕ → Type 0
IsWalk IsEdge [] = ⊥
IsWalk IsEdge (t ∷ []) = Unit {0}
IsWalk IsEdge (t ∷ u ∷ rest) = IsEdge t u × IsWalk IsEdge (u ∷ rest)

-- a list of one or more tasks, each with an edge to the next and the last with an edge to the first
abbrev pub IsCycle : (ℕ → ℕ → Type 0) → List ℕ → Type 0
IsCycle IsEdge [] = ⊥
IsCycle IsEdge (t ∷ rest) = IsWalk IsEdge (t ∷ (rest ++ t ∷ []))

-- some list is a cycle
abbrev pub HasCycle : (ℕ → ℕ → Type 0) → Type 0
HasCycle IsEdge = (tasks : List ℕ) × IsCycle IsEdge tasks

-- a list that holds each task below the count once, and has a before b for each edge (a, b)
pub record IsTopological (count : ℕ) (IsEdge : ℕ → ℕ → Type 0) (order : List ℕ) : Type 0 where
  pub full : length order ≡ count
  pub tasks : All (λ t. t < count) order
  pub each : (t : ℕ) → t < count → Contains order t
  pub once : (i j : ℕ) → i < count → j < count → slice_index order i ≡ slice_index order j → i ≡ j
  pub before : (i j : ℕ) → i < count → j < count
      → IsEdge (slice_index order i) (slice_index order j) → i < j
