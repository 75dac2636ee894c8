-- Orders that always take the smallest task that is ready.
use Rattle.std.proofs.Common.{◌≡◌, ◌≢◌, ℕ, zero, suc, ◌+◌, ◌<◌, ◌≤◌, inl, inr, List, [], ◌∷◌, ◌++◌, length, take, arith, sym, ◌∙◌, length-append}
use Rattle.std.specs.Prelude.{slice_index, Contains, All, AllPairs}
use Rattle.std.proofs.lemmas.Bool.{cases_lt, cases_order}
use Rattle.std.proofs.lemmas.Grind.{get_or_default_zero}
use Rattle.std.proofs.lemmas.List.{get_or_append_left, get_or-take, length-take-le, take-append-le}
use Rattle.std.proofs.Math.Seq.{take-append_seam, get_or-append_seam}
use Rattle.pyr_seq.specs.Walk.{IsTopological}
use Rattle.pyr_graph.specs.Removal.{IsLeast, IsRemoved, all_before, IsReady, IsSmallestFirst}
use Rattle.pyr_graph.proofs.Counting.{Contains-all, length-le_from_apart}

-- one task more, the smallest that is ready
pub IsSmallestFirst-push : (count : ℕ) (IsEdge : ℕ → ℕ → Type 0) (order : List ℕ) (t : ℕ) → IsSmallestFirst count IsEdge order
    → IsLeast (IsReady count IsEdge order) t → IsSmallestFirst count IsEdge (order ++ t ∷ [])
IsSmallestFirst-push count IsEdge order t first least i inside =
    let inside' : i < length order + 1 = simp length-append at inside in
    elim (cases_lt i (length order)) [
      | inl old ↦ rw (take-append-le i order (t ∷ []) (omega arith), get_or_append_left order (t ∷ []) 0 i old) (first i old)
      | inr new ↦ (
          let same : i ≡ length order = omega arith in
          rw (same, take-append_seam order (t ∷ []), get_or-append_seam order t [] 0) least)
    ]

pub IsSmallestFirst-none : (count : ℕ) (IsEdge : ℕ → ℕ → Type 0) → IsSmallestFirst count IsEdge []
IsSmallestFirst-none count IsEdge i inside = absurd (let none : i < 0 = inside in omega (arith, none))

-- the same edges have the same orders
IsReady-same : (count : ℕ) (IsEdge IsLink : ℕ → ℕ → Type 0) → ((a t : ℕ) → IsLink a t → IsEdge a t) → (out : List ℕ) (t : ℕ) → IsReady count IsEdge out t → IsReady count IsLink out t
IsReady-same count IsEdge IsLink edge out t is = record { task = is.task; in_ = is.in_; free = λ a link. is.free a (edge a t link) }

pub IsSmallestFirst-same : (count : ℕ) (IsEdge IsLink : ℕ → ℕ → Type 0) → ((a t : ℕ) → IsEdge a t → IsLink a t) → ((a t : ℕ) → IsLink a t → IsEdge a t)
    → (order : List ℕ) → IsSmallestFirst count IsEdge order → IsSmallestFirst count IsLink order
IsSmallestFirst-same count IsEdge IsLink link edge order first i inside =
    let is = first i inside in
    record {
      has = IsReady-same count IsEdge IsLink edge (take i order) (slice_index order i) is.has;
      least = λ m ready. is.least m (IsReady-same count IsLink IsEdge link (take i order) m ready);
    }

-- and leave the same tasks
pub IsRemoved-same : (IsEdge IsLink : ℕ → ℕ → Type 0) → ((a t : ℕ) → IsLink a t → IsEdge a t) → (t : ℕ) → IsRemoved IsEdge t → IsRemoved IsLink t
IsRemoved-same IsEdge IsLink edge t (all_before before) = all_before (λ a link. IsRemoved-same IsEdge IsLink edge a (before a (edge a t link)))

-- The order that is made so is a topological one when it has all tasks.
module _ (count : ℕ) (IsEdge : ℕ → ℕ → Type 0) (order : List ℕ) (first : IsSmallestFirst count IsEdge order) where
  below : All (λ t. t < count) order
  below i d inside = rw (get_or_default_zero order i d inside) ((first i inside).has.task)

  earlier : (i : ℕ) (t : ℕ) → i < length order → Contains (take i order) t → (k : ℕ) × (k < i) × (slice_index order k ≡ t)
  earlier i t inside (k, k_in, here) =
      let short : k < i = rw (length-take-le i order (omega arith)) at k_in in
      (k, short, sym (get_or_default_zero order k t (omega arith)) ∙ (sym (get_or-take i order k t short) ∙ here))

  pub apart : AllPairs (λ a b. a ≢ b) order
  apart i j d less inside same =
      let x = slice_index order j in
      let i_in : i < length order = omega arith in
      let short : i < length (take j order) = rw (length-take-le j order (omega arith)) less in
      (first j inside).has.in_
      (i, short, get_or-take j order i x less ∙ (get_or_default_zero order i x i_in ∙ (sym (get_or_default_zero order i d i_in) ∙ (same ∙ get_or_default_zero order j d inside))))

  -- it has no more than all tasks
  pub length-le_from_first : length order ≤ count
  length-le_from_first = length-le_from_apart order count apart below

  once : (i j : ℕ) → i < length order → j < length order → slice_index order i ≡ slice_index order j → i ≡ j
  once i j i_in j_in same = elim (cases_order i j) [
    | inl is ↦ is
    | inr (inl less) ↦ absurd (apart i j 0 less j_in same)
    | inr (inr more) ↦ absurd (apart j i 0 more i_in (sym same))
  ]

  pub IsTopological-from_first : length order ≡ count → IsTopological count IsEdge order
  IsTopological-from_first full = record {
    full = full;
    tasks = below;
    each = Contains-all order count apart below full;
    once = λ i j i_in j_in same. once i j (omega arith) (omega arith) same;
    before = λ i j i_in j_in edge.
        let inside : j < length order = omega arith in
        let (k, less, here) = earlier j (slice_index order i) inside ((first j inside).has.free (slice_index order i) edge) in
        let same = once k i (omega arith) (omega arith) here in
        omega (arith, same, less);
  }

  -- each task in it has been removed
  IsRemoved-at : (n i : ℕ) → i < n → i < length order → IsRemoved IsEdge (slice_index order i)
  IsRemoved-at zero i less inside = absurd (omega arith)
  IsRemoved-at (suc n) i less inside = all_before (λ a edge.
      let (k, short, here) = earlier i a inside ((first i inside).has.free a edge) in
      rw (← here) (IsRemoved-at n k (omega arith) (omega arith)))

  pub IsRemoved-from_first : (t : ℕ) → Contains order t → IsRemoved IsEdge t
  IsRemoved-from_first t (k, k_in, here) =
      rw (← here, get_or_default_zero order k t k_in) (IsRemoved-at (suc k) k (omega arith) k_in)

  -- and the predecessors of a task in it stand in it
  pub before_in : (a t : ℕ) → Contains order t → IsEdge a t → Contains order a
  before_in a t (k, k_in, here) edge =
      let here' : slice_index order k ≡ t = sym (get_or_default_zero order k t k_in) ∙ here in
      let (j, less, at) = earlier k a k_in ((first k k_in).has.free a (rw here' edge)) in
      (j, omega arith, get_or_default_zero order j a (omega arith) ∙ at)
