-- A clustering has one placement.
use Rattle.std.proofs.Common.{◌≡◌, ◌⊎◌, ℕ, zero, suc, ◌<◌, ◌≤◌, List, [], ◌∷◌, inl, inr, refl, arith, ap, sym, ◌∙◌, length, get_or}
use Rattle.std.specs.Prelude.{AllPairs, Contains, slice_index, replicate}
use Rattle.std.proofs.lemmas.Bool.{cases_lt, cases_eq}
use Rattle.std.proofs.lemmas.Grind.{get_or_default_zero}
use Rattle.std.proofs.lemmas.List.Elements.{All-contains}
use Rattle.pyr_num.specs.declared.ids.ProcId.{ProcId}
use Rattle.pyr_graph.specs.declared.placement.Placement.{Placement}
use Rattle.pyr_graph.specs.System.{System, task_count}
use Rattle.pyr_graph.specs.Clusters.{times_in_clusters, IsPartition}
use Rattle.pyr_merge.specs.Merge.{load_of, ComesBefore, IsByFallingLoad, IsLeastLoaded, with_load, IsDealt, IsMerged}
use Rattle.pyr_merge.proofs.PartLemmas.{some-cluster, stands}

-- no two processors are the least loaded
IsLeastLoaded-one : (loads : List ℕ) (p q : ℕ) → IsLeastLoaded loads p → IsLeastLoaded loads q → p ≡ q
IsLeastLoaded-one loads p q one other = elim (cases_lt p q) [
  | inl less ↦ absurd (omega (arith, other.smallest p less, one.least q other.inside))
  | inr past ↦ elim (cases_eq p q) [
    | inl same ↦ same
    | inr apart ↦ (let less : q < p = omega arith in absurd (omega (arith, one.smallest q less, other.least p one.inside)))
  ]
]

-- so the processors are determined
IsDealt-one : (load : ℕ → ℕ) (before order targets targets' after after' : List ℕ)
    → IsDealt load before order targets after → IsDealt load before order targets' after' → targets ≡ targets'
IsDealt-one load before [] [] [] after after' one other = refl
IsDealt-one load before [] [] (q ∷ targets') after after' one other = absurd other
IsDealt-one load before [] (p ∷ targets) targets' after after' one other = absurd one
IsDealt-one load before (k ∷ order) [] targets' after after' one other = absurd one
IsDealt-one load before (k ∷ order) (p ∷ targets) [] after after' one other = absurd other
IsDealt-one load before (k ∷ order) (p ∷ targets) (q ∷ targets') after after' (least, more) (least', more') =
    let same = IsLeastLoaded-one before p q least least' in
    let rest = IsDealt-one load (with_load before p (load k)) order targets targets' after after' more (rw (← same) at more') in
    rw (same, rest)

-- what a list with one more in front holds
Contains-later : (x : ℕ) (xs : List ℕ) (k : ℕ) → Contains xs k → Contains (x ∷ xs) k
Contains-later x xs k (i, inside, here) = (suc i, omega arith, here)

Contains-cases : (x : ℕ) (xs : List ℕ) (k : ℕ) → Contains (x ∷ xs) k → (x ≡ k) ⊎ Contains xs k
Contains-cases x xs k (zero, inside, here) = inl here
Contains-cases x xs k (suc i, inside, here) = inr (i, omega arith, here)

-- lists in a strict order that hold the same numbers are the same
module _ (R : ℕ → ℕ → Type 0) (never : (a b : ℕ) → R a b → R b a → ⊥) where
  first-all : (x : ℕ) (xs : List ℕ) → AllPairs R (x ∷ xs) → (k : ℕ) → Contains xs k → R x k
  first-all x xs all k (i, inside, here) = rw here at (all 0 (suc i) k (omega arith) (omega arith))

  AllPairs-rest : (x : ℕ) (xs : List ℕ) → AllPairs R (x ∷ xs) → AllPairs R xs
  AllPairs-rest x xs all i j d less inside = all (suc i) (suc j) d (omega arith) (omega arith)

  rest-held : (x : ℕ) (xs ys : List ℕ) → AllPairs R (x ∷ xs) → ((k : ℕ) → Contains (x ∷ xs) k → Contains (x ∷ ys) k)
      → (k : ℕ) → Contains xs k → Contains ys k
  rest-held x xs ys all each k held = elim (Contains-cases x ys k (each k (Contains-later x xs k held))) [
    | inl same ↦ (let r = first-all x xs all k held in let r' : R x x = rw (sym same) at r in absurd (never x x r' r'))
    | inr there ↦ there
  ]

  same-list : (xs ys : List ℕ) → AllPairs R xs → AllPairs R ys
      → ((k : ℕ) → Contains xs k → Contains ys k) → ((k : ℕ) → Contains ys k → Contains xs k) → xs ≡ ys
  same-list [] [] one other there back = refl
  same-list [] (y ∷ ys) one other there back = (let (i, inside, here) = back y (0, omega arith, refl) in absurd (omega (arith, inside)))
  same-list (x ∷ xs) [] one other there back = (let (i, inside, here) = there x (0, omega arith, refl) in absurd (omega (arith, inside)))
  same-list (x ∷ xs) (y ∷ ys) one other there back = elim (cases_eq x y) [
    | inl same ↦
        let there' : (k : ℕ) → Contains (x ∷ xs) k → Contains (x ∷ ys) k = rw (sym same) at there in
        let back' : (k : ℕ) → Contains (x ∷ ys) k → Contains (x ∷ xs) k = rw (sym same) at back in
        let other' : AllPairs R (x ∷ ys) = rw (sym same) at other in
        rw (← same) (ap (λ (rest : List ℕ). x ∷ rest)
        (same-list xs ys (AllPairs-rest x xs one) (AllPairs-rest x ys other') (rest-held x xs ys one there') (rest-held x ys xs other' back')))
    | inr apart ↦ elim (Contains-cases y ys x (there x (0, omega arith, refl))) [
      | inl same ↦ absurd (apart (sym same))
      | inr in_ys ↦ elim (Contains-cases x xs y (back y (0, omega arith, refl))) [
        | inl same ↦ absurd (apart same)
        | inr in_xs ↦ absurd (never x y (first-all x xs one y in_xs) (first-all y ys other x in_ys))
      ]
    ]
  ]

module _ (s : System) (clusters : List (List ℕ)) where
  never-both : (a b : ℕ) → ComesBefore s clusters a b → ComesBefore s clusters b a → ⊥
  never-both a b (inl one) (inl other) = omega arith
  never-both a b (inl one) (inr (same, other)) = omega arith
  never-both a b (inr (same, one)) (inl other) = omega arith
  never-both a b (inr (same, one)) (inr (same', other)) = omega arith

  pub order-one : (order order' : List ℕ) → IsByFallingLoad s clusters order → IsByFallingLoad s clusters order' → order ≡ order'
  order-one order order' one other = same-list (ComesBefore s clusters) never-both order order' one.falling other.falling
      (λ k held. other.each k (All-contains (λ j. j < length clusters) order k one.numbers held))
      (λ k held. one.each k (All-contains (λ j. j < length clusters) order' k other.numbers held))

-- lists of one length with the same processors
same-processors : (xs ys : List ProcId) → length xs ≡ length ys
    → ((t : ℕ) → t < length xs → (get_or xs t (record { 0 = 0 })).0 ≡ (get_or ys t (record { 0 = 0 })).0) → xs ≡ ys
same-processors [] [] same each = refl
same-processors [] (y ∷ ys) same each = absurd (omega arith)
same-processors (x ∷ xs) [] same each = absurd (omega arith)
same-processors (x ∷ xs) (y ∷ ys) same each =
    let here : x ≡ y = ap (λ (p : ℕ). (let q : ProcId = record { 0 = p } in q)) (each 0 (omega arith)) in
    rw (here, same-processors xs ys (omega arith) (λ t inside. each (suc t) (omega (arith, inside))))

-- clusters in which each task stands have one placement
pub one-placement-where : (s : System) (clusters : List (List ℕ)) (processors : ℕ) (one other : Placement)
    → ((t : ℕ) → t < task_count s → 1 ≤ times_in_clusters clusters t) → IsMerged s clusters processors one → IsMerged s clusters processors other → one ≡ other
one-placement-where s clusters processors one other each is is' =
    let order = order-one s clusters is'.order is.order is'.by_load is.by_load in
    let targets = IsDealt-one (load_of s clusters) (replicate processors 0) is.order is.targets is'.targets is.loads is'.loads is.dealt (rw order at is'.dealt) in
    let of = same-processors one.of other.of (is.full ∙ sym is'.full) (λ t inside.
    let (k, k_in, held) = some-cluster clusters t (each t (omega (arith, is.full))) in
    let (i, i_in, here) = is.by_load.each k k_in in
    let at : slice_index is.order i ≡ k = sym (get_or_default_zero is.order i k i_in) ∙ here in
    let first = is.tasks i t i_in (rw at held) in
    let second = is'.tasks i t (rw order i_in) (rw (order, at) held) in
    first ∙ (rw targets (sym second))) in
    ap (λ (p : ℕ). (let q : Placement = record { processors = p; of = one.of } in q)) (is.count ∙ sym is'.count)
    ∙ ap (λ (xs : List ProcId). (let q : Placement = record { processors = other.processors; of = xs } in q)) of

pub one-placement : (s : System) (clusters : List (List ℕ)) (processors : ℕ) (one other : Placement)
    → IsPartition s clusters → IsMerged s clusters processors one → IsMerged s clusters processors other → one ≡ other
one-placement s clusters processors one other part =
    one-placement-where s clusters processors one other (stands s clusters part)
