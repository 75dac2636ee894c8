-- Orders of a relation on tasks that take the smallest task first, and the cycle that is named
-- where there is no order.
use Rattle.std.specs.Prelude.{◌≢◌, ℕ, ◌<◌, ◌≤◌, List, [], ◌∷◌, ◌++◌, AllPairs, Contains, length, slice_index, take}
use Rattle.pyr_seq.specs.Walk.{IsWalk}

-- Tasks without remaining predecessors are removed again and again: a task is, once all its
-- predecessors are.
pub data IsRemoved (IsEdge : ℕ → ℕ → Type 0) : ℕ → Type 0 where
  all_before : {t : ℕ} → ((a : ℕ) → IsEdge a t → IsRemoved IsEdge a) → IsRemoved IsEdge t

-- a task that is never removed
abbrev pub IsLeft : ℕ → (ℕ → ℕ → Type 0) → ℕ → Type 0
IsLeft count IsEdge t = (t < count) × (IsRemoved IsEdge t → ⊥)

-- the number has the property, and no smaller one has
pub record IsLeast (P : ℕ → Type 0) (n : ℕ) : Type 0 where
  pub has : P n
  pub least : (m : ℕ) → P m → n ≤ m

-- a is the smallest task left with an edge to t
abbrev pub IsStepBack : (ℕ → Type 0) → (ℕ → ℕ → Type 0) → ℕ → ℕ → Type 0
IsStepBack Left IsEdge t a = IsLeast (λ b. Left b × IsEdge b t) a

-- the walk begins with the smallest task left
abbrev pub BeginsAtLeast : (ℕ → Type 0) → List ℕ → Type 0
BeginsAtLeast Left [] = ⊥
BeginsAtLeast Left (t ∷ rest) = IsLeast Left t

-- The walk goes from the smallest task left to the smallest predecessor left until a task repeats.
-- The cycle is the walk from the first place of that task to before its second.
abbrev pub IsFoundCycle : (ℕ → Type 0) → (ℕ → ℕ → Type 0) → List ℕ → Type 0
IsFoundCycle Left IsEdge [] = ⊥
IsFoundCycle Left IsEdge (t ∷ rest) =
    (front : List ℕ)
    × BeginsAtLeast Left (front ++ t ∷ rest)
    × IsWalk (IsStepBack Left IsEdge) (front ++ t ∷ (rest ++ t ∷ []))
    × AllPairs (λ a b. a ≢ b) (front ++ t ∷ rest)

-- a task that is not out, and whose predecessors all are
pub record IsReady (count : ℕ) (IsEdge : ℕ → ℕ → Type 0) (out : List ℕ) (t : ℕ) : Type 0 where
  pub task : t < count
  pub in_ : Contains out t → ⊥
  pub free : (a : ℕ) → IsEdge a t → Contains out a

-- each task is the smallest that is ready when those before it are out
abbrev pub IsSmallestFirst : ℕ → (ℕ → ℕ → Type 0) → List ℕ → Type 0
IsSmallestFirst count IsEdge order =
    (i : ℕ) → i < length order → IsLeast (IsReady count IsEdge (take i order)) (slice_index order i)
