-- Walks under a weaker relation, their ends, their reversals; and that an order leaves no cycle.
use Rattle.std.proofs.Common.{◌≡◌, ℕ, ◌<◌, List, [], ◌∷◌, ◌++◌, arith, sym, ◌∙◌}
use Rattle.std.specs.Prelude.{slice_index, All, reverse}
use Rattle.std.specs.List.{AllByRecursion}
use Rattle.std.proofs.lemmas.List.Elements.{recursion_from_All}
use Rattle.std.proofs.lemmas.List.{reverse-append}
use Rattle.std.proofs.lemmas.Grind.{get_or_default_zero}
use Rattle.pyr_seq.specs.Walk.{IsWalk, IsCycle, HasCycle, IsTopological}

-- a walk by one relation is a walk by a weaker one
pub IsWalk-weaker : (R Q : ℕ → ℕ → Type 0) → ((a b : ℕ) → R a b → Q a b) → (xs : List ℕ) → IsWalk R xs → IsWalk Q xs
IsWalk-weaker R Q gives [] walk = walk
IsWalk-weaker R Q gives (t ∷ []) walk = tt
IsWalk-weaker R Q gives (t ∷ u ∷ rest) walk = (gives t u walk.0, IsWalk-weaker R Q gives (u ∷ rest) walk.1)

-- the end of a walk is a walk
pub IsWalk-end : (R : ℕ → ℕ → Type 0) (front : List ℕ) (t : ℕ) (rest : List ℕ) → IsWalk R (front ++ t ∷ rest) → IsWalk R (t ∷ rest)
IsWalk-end R [] t rest walk = walk
IsWalk-end R (a ∷ []) t rest walk = walk.1
IsWalk-end R (a ∷ b ∷ more) t rest walk = IsWalk-end R (b ∷ more) t rest walk.1

-- one step more
pub IsWalk-push : (R : ℕ → ℕ → Type 0) (front : List ℕ) (a b : ℕ) → IsWalk R (front ++ a ∷ []) → R a b → IsWalk R ((front ++ a ∷ []) ++ b ∷ [])
IsWalk-push R [] a b walk step = (step, tt)
IsWalk-push R (x ∷ []) a b walk step = (walk.0, (step, tt))
IsWalk-push R (x ∷ y ∷ more) a b walk step = (walk.0, IsWalk-push R (y ∷ more) a b walk.1 step)

-- what rises along each step is greater at the end of a walk
pub IsWalk-rises : (R : ℕ → ℕ → Type 0) (P : ℕ → ℕ → Type 0) → ((a b : ℕ) → R a b → P a b) → ((a b c : ℕ) → P a b → P b c → P a c)
    → (a : ℕ) (front : List ℕ) (b : ℕ) → IsWalk R (a ∷ (front ++ b ∷ [])) → P a b
IsWalk-rises R P step join a [] b walk = step a b walk.0
IsWalk-rises R P step join a (x ∷ front) b walk = join a x b (step a x walk.0) (IsWalk-rises R P step join x front b walk.1)

reverse-cons : (x : ℕ) (xs : List ℕ) → reverse (x ∷ xs) ≡ reverse xs ++ x ∷ []
reverse-cons x xs = reverse-append (x ∷ []) xs

-- a walk backwards is one by the turned relation
pub IsWalk-reverse : (R : ℕ → ℕ → Type 0) (a : ℕ) (front : List ℕ) (b : ℕ) → IsWalk R (a ∷ (front ++ b ∷ [])) → IsWalk (λ x y. R y x) (b ∷ (reverse front ++ a ∷ []))
IsWalk-reverse R a [] b walk = (walk.0, tt)
IsWalk-reverse R a (x ∷ front) b walk =
    rw (reverse-cons x front) (IsWalk-push (λ x y. R y x) (b ∷ reverse front) x a (IsWalk-reverse R x front b walk.1) walk.0)

-- a cycle may begin at its second task
IsCycle-next : (R : ℕ → ℕ → Type 0) (t : ℕ) (rest : List ℕ) → IsCycle R (t ∷ rest) → IsCycle R (rest ++ t ∷ [])
IsCycle-next R t [] cycle = cycle
IsCycle-next R t (u ∷ rest) cycle = IsWalk-push R (u ∷ rest) t u cycle.1 cycle.0

-- a cycle against the edges is one along them backwards
pub IsCycle-reverse : (IsEdge : ℕ → ℕ → Type 0) (tasks : List ℕ) → IsCycle (λ t a. IsEdge a t) tasks → IsCycle IsEdge (reverse tasks)
IsCycle-reverse IsEdge [] none = absurd none
IsCycle-reverse IsEdge (t ∷ rest) cycle =
    rw (reverse-cons t rest) (IsCycle-next IsEdge t (reverse rest) (IsWalk-reverse (λ t a. IsEdge a t) t rest t cycle))

-- a topological order leaves no cycle
module _ (count : ℕ) (IsEdge : ℕ → ℕ → Type 0) (order : List ℕ) (top : IsTopological count IsEdge order) where
  -- a task of the order that stands later than the first
  abbrev IsLater : ℕ → ℕ → Type 0
  IsLater a b = (b < count) × ((i j : ℕ) → i < count → j < count → slice_index order i ≡ a → slice_index order j ≡ b → i < j)

  -- an edge to a task of the order
  abbrev IsEdgeInto : ℕ → ℕ → Type 0
  IsEdgeInto a b = IsEdge a b × (b < count)

  place : (t : ℕ) → t < count → (i : ℕ) × (i < count) × (slice_index order i ≡ t)
  place t t_in =
      let (i, inside, here) = top.each t t_in in
      (i, omega (arith, top.full), sym (get_or_default_zero order i t inside) ∙ here)

  step : (a b : ℕ) → IsEdgeInto a b → IsLater a b
  step a b edge = (edge.1, λ i j i_in j_in here there. top.before i j i_in j_in (rw (here, there) edge.0))

  join : (a b c : ℕ) → IsLater a b → IsLater b c → IsLater a c
  join a b c one two =
      let (k, k_in, mid) = place b one.0 in (
        two.0,
        λ i j i_in j_in here there.
            let left = one.1 i k i_in k_in here mid in
            let right = two.1 k j k_in j_in mid there in
            omega (arith, left, right),
      )

  no_return : (t : ℕ) (rest : List ℕ) → IsWalk IsEdgeInto (t ∷ (rest ++ t ∷ [])) → ⊥
  no_return t rest walk =
      let later = IsWalk-rises IsEdgeInto IsLater step join t rest t walk in
      let (i, i_in, here) = place t later.0 in
      let less = later.1 i i i_in i_in here here in
      omega (arith, less)

  -- a walk to tasks of the order
  walk_into : (a : ℕ) (rest : List ℕ) (t : ℕ) → IsWalk IsEdge (a ∷ (rest ++ t ∷ [])) → AllByRecursion (λ t. t < count) rest → t < count → IsWalk IsEdgeInto (a ∷ (rest ++ t ∷ []))
  walk_into a [] t walk all t_in = ((walk.0, t_in), tt)
  walk_into a (b ∷ rest) t walk all t_in = ((walk.0, all.0), walk_into b rest t walk.1 all.1 t_in)

  -- no list of its tasks is a cycle
  pub no_cycle_among : (cycle : List ℕ) → All (λ t. t < count) cycle → IsCycle IsEdge cycle → ⊥
  no_cycle_among [] all none = none
  no_cycle_among (t ∷ rest) all walk =
      let each = recursion_from_All (λ t. t < count) (t ∷ rest) all in
      no_return t rest (walk_into t rest t walk each.1 each.0)

  -- nor is any list where the edges lead to its tasks alone
  pub no_cycle : ((a b : ℕ) → IsEdge a b → b < count) → HasCycle IsEdge → ⊥
  no_cycle bounded ([], none) = none
  no_cycle bounded (t ∷ rest, cycle) =
      no_return t rest (IsWalk-weaker IsEdge IsEdgeInto (λ a b edge. (edge, bounded a b edge)) (t ∷ (rest ++ t ∷ [])) cycle)
