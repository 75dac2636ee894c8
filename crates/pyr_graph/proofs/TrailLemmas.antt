-- The walk back over the tasks that are left, and the cycle that it runs into.
use Rattle.std.proofs.Common.{◌≡◌, ◌≢◌, ℕ, suc, ◌<◌, ◌≤◌, List, [], ◌∷◌, ◌++◌, length, get_or, set, drop, take, ap, drop-cons, append_assoc, arith, sym, ◌∙◌, get_or-set_same, get_or-set_other, length-append, length-set, replicate, Option, Some, None, refl, ◌⊎◌, inl, inr}
use Rattle.std.specs.Prelude.{slice_index, Contains, All, AllPairs}
use Rattle.std.specs.List.{AllWithin}
use Rattle.std.proofs.lemmas.Bool.{cases_lt, cases_eq}
use Rattle.std.proofs.lemmas.List.{take-append-drop, get_or_past, get_or_at, get_or_append_left, get_or_default, get_or-replicate, length-replicate}
use Rattle.std.proofs.lemmas.List.Elements.{All-nil, All-push, All-weaker, Contains-push_cases}
use Rattle.std.proofs.lemmas.List.Quantifiers.{all_pairs_push}
use Rattle.std.proofs.lemmas.Grind.{get_or_default_zero}
use Rattle.pyr_seq.specs.Walk.{IsWalk, IsCycle}
use Rattle.pyr_seq.proofs.WalkLemmas.{IsWalk-weaker, IsWalk-end, IsWalk-push}
use Rattle.pyr_graph.specs.declared.edge.Edge.{Edge}
use Rattle.pyr_graph.specs.Removal.{IsLeast, IsStepBack, BeginsAtLeast, IsFoundCycle}
use Rattle.pyr_graph.specs.Tables.{Precedes, IsWaiting}
use Rattle.pyr_graph.proofs.Counting.{length-le_from_apart}

-- the walk's cycle is one, against the edges
pub IsCycle-found : (Left : ℕ → Type 0) (IsEdge : ℕ → ℕ → Type 0) (tasks : List ℕ) → IsFoundCycle Left IsEdge tasks → IsCycle (λ t a. IsEdge a t) tasks
IsCycle-found Left IsEdge [] found = found
IsCycle-found Left IsEdge (t ∷ rest) (front, begins, walk, once) =
    IsWalk-weaker (IsStepBack Left IsEdge) (λ t a. IsEdge a t) (λ a b step. step.has.1) (t ∷ (rest ++ t ∷ []))
    (IsWalk-end (IsStepBack Left IsEdge) front t (rest ++ t ∷ []) walk)

-- the walk is the same for other words for what is left and for the edges
pub IsFoundCycle-same : (Left Other : ℕ → Type 0) (IsEdge IsLink : ℕ → ℕ → Type 0) → ((t : ℕ) → Left t → Other t) → ((t : ℕ) → Other t → Left t)
    → ((a t : ℕ) → IsEdge a t → IsLink a t) → ((a t : ℕ) → IsLink a t → IsEdge a t)
    → (tasks : List ℕ) → IsFoundCycle Left IsEdge tasks → IsFoundCycle Other IsLink tasks
IsFoundCycle-same Left Other IsEdge IsLink to from link edge [] found = found
IsFoundCycle-same Left Other IsEdge IsLink to from link edge (t ∷ rest) (front, begins, walk, once) = (
  front,
  begins-same (front ++ t ∷ rest) begins,
  IsWalk-weaker (IsStepBack Left IsEdge) (IsStepBack Other IsLink)
      (λ a b step. record { has = (to b step.has.0, link b a step.has.1); least = λ u is. step.least u (from u is.0, edge u a is.1) })
      (front ++ t ∷ (rest ++ t ∷ [])) walk,
  once,
)
  where
    begins-same : (xs : List ℕ) → BeginsAtLeast Left xs → BeginsAtLeast Other xs
    begins-same [] none = none
    begins-same (x ∷ xs) is = record { has = to x is.has; least = λ u left. is.least u (from u left) }

-- a walk back from the smallest task left, so far without a repeat, that stands at a task
pub record IsTrail (Left : ℕ → Type 0) (IsEdge : ℕ → ℕ → Type 0) (trail : List ℕ) (task : ℕ) : Type 0 where
  pub begins : BeginsAtLeast Left (trail ++ task ∷ [])
  pub walk : IsWalk (IsStepBack Left IsEdge) (trail ++ task ∷ [])
  pub once : AllPairs (λ a b. a ≢ b) trail
  pub stands : Left task
  pub all_left : All Left trail

module _ (Left : ℕ → Type 0) (IsEdge : ℕ → ℕ → Type 0) where
  pub IsTrail-start : (t : ℕ) → IsLeast Left t → IsTrail Left IsEdge [] t
  IsTrail-start t least = record { begins = least; walk = tt; once = λ i j d less inside same. absurd (let none : j < 0 = inside in omega (arith, none)); stands = least.has; all_left = All-nil Left }

  begins-push : (xs : List ℕ) (y z : ℕ) → BeginsAtLeast Left (xs ++ y ∷ []) → BeginsAtLeast Left ((xs ++ y ∷ []) ++ z ∷ [])
  begins-push [] y z is = is
  begins-push (x ∷ xs) y z is = is

  pub apart-push : (trail : List ℕ) (task : ℕ) → (Contains trail task → ⊥) → AllPairs (λ a b. a ≢ b) trail → AllPairs (λ a b. a ≢ b) (trail ++ task ∷ [])
  apart-push trail task new once =
      all_pairs_push (λ a b. a ≢ b) trail task once
      (λ k d k_in same. new (k, k_in, get_or_default_zero trail k task k_in ∙ (sym (get_or_default_zero trail k d k_in) ∙ same)))

  pub IsTrail-step : (trail : List ℕ) (task next : ℕ) → (Contains trail task → ⊥) → IsTrail Left IsEdge trail task → IsStepBack Left IsEdge task next → IsTrail Left IsEdge (trail ++ task ∷ []) next
  IsTrail-step trail task next new so_far step = record {
    begins = begins-push trail task next so_far.begins;
    walk = IsWalk-push (IsStepBack Left IsEdge) trail task next so_far.walk step;
    once = apart-push trail task new so_far.once;
    stands = step.has.0;
    all_left = All-push Left trail task so_far.all_left so_far.stands;
  }

  begins-cut : (xs : List ℕ) (y z : ℕ) (ys : List ℕ) → BeginsAtLeast Left ((xs ++ y ∷ ys) ++ z ∷ []) → BeginsAtLeast Left (xs ++ y ∷ ys)
  begins-cut [] y z ys is = is
  begins-cut (x ∷ xs) y z ys is = is

  found_from : (front : List ℕ) (task : ℕ) (rest : List ℕ) → IsTrail Left IsEdge (front ++ task ∷ rest) task → IsFoundCycle Left IsEdge (task ∷ rest)
  found_from front task rest trail =
      (front, begins-cut front task task rest trail.begins, rw append_assoc at trail.walk, trail.once)

  -- where the task stands in the trail already
  pub IsFoundCycle-from_trail : (trail : List ℕ) (task i : ℕ) → i < length trail → slice_index trail i ≡ task → IsTrail Left IsEdge trail task → IsFoundCycle Left IsEdge (drop i trail)
  IsFoundCycle-from_trail trail task i inside here is =
      let cut : drop i trail ≡ task ∷ drop (suc i) trail = drop-cons trail i 0 inside ∙ ap (λ (x : ℕ). x ∷ drop (suc i) trail) here in
      let whole : trail ≡ take i trail ++ task ∷ drop (suc i) trail = sym (take-append-drop i trail) ∙ ap (λ (xs : List ℕ). take i trail ++ xs) cut in
      rw cut (found_from (take i trail) task (drop (suc i) trail) (rw whole at is))

  -- a walk without a repeat is shorter than the tasks are many
  pub IsTrail-short : (count : ℕ) (trail : List ℕ) (task : ℕ) → ((t : ℕ) → Left t → t < count) → IsTrail Left IsEdge trail task → (Contains trail task → ⊥) → length trail < count
  IsTrail-short count trail task inside is new =
      let once = apart-push trail task new is.once in
      let below : All (λ a. a < count) (trail ++ task ∷ []) = All-weaker Left (λ a. a < count) inside (trail ++ task ∷ []) (All-push Left trail task is.all_left is.stands) in
      let most : length (trail ++ task ∷ []) ≤ count = length-le_from_apart (trail ++ task ∷ []) count once below in
      omega (arith, most, length-append trail (task ∷ []))

-- a task that waits is one
pub waiting_in : (pending : List ℕ) (t : ℕ) → IsWaiting pending t → t < length pending
waiting_in pending t is = elim (cases_lt t (length pending)) [
  | inl inside ↦ inside
  | inr past ↦ absurd (let none = get_or_past pending t 0 past in omega (arith, none, is))
]

-- the table of the places tells where each task of the trail stands
pub record IsPlaced (count : ℕ) (trail : List ℕ) (places : List (Option ℕ)) : Type 0 where
  pub full : length places ≡ count
  pub known : (t i : ℕ) → get_or places t None ≡ Some i → (i < length trail) × (slice_index trail i ≡ t)
  pub new : (t : ℕ) → t < count → get_or places t None ≡ None → Contains trail t → ⊥

abbrev nowhere : Option ℕ
nowhere = None

unset : (count t : ℕ) → (t < count) ⊎ (count ≤ t) → get_or (replicate count nowhere) t nowhere ≡ nowhere
unset count t (inl less) = get_or-replicate count t nowhere nowhere less
unset count t (inr past) = get_or_past (replicate count nowhere) t nowhere (rw (length-replicate count nowhere) past)

pub IsPlaced-start : (count : ℕ) → IsPlaced count [] (replicate count None)
IsPlaced-start count = record {
  full = length-replicate count nowhere;
  known = λ t i at. absurd (let none = unset count t (cases_lt t count) in let both : nowhere ≡ Some i = sym none ∙ at in cc);
  new = λ t t_in at held. let (k, inside, here) = held in let none : k < 0 = inside in omega (arith, none);
}

pub IsPlaced-step : (count : ℕ) (trail : List ℕ) (places : List (Option ℕ)) (task : ℕ) → task < count → IsPlaced count trail places
    → IsPlaced count (trail ++ task ∷ []) (set places task (Some (length trail)))
IsPlaced-step count trail places task task_in is = record { full = rw length-set is.full; known = known'; new = new' }
  where
    known' : (t i : ℕ) → get_or (set places task (Some (length trail))) t None ≡ Some i → (i < length (trail ++ task ∷ [])) × (slice_index (trail ++ task ∷ []) i ≡ t)
    known' t i at = elim (cases_eq t task) [
      | inl same ↦ (
          let written = get_or-set_same places task (Some (length trail)) None (omega (arith, is.full, task_in)) in
          let at' = rw same at at in
          let place : length trail ≡ i = cc (written, at') in
          (rw length-append (omega (arith, place)), get_or_at trail task [] 0 i place ∙ sym same))
      | inr apart ↦ (
          let kept = get_or-set_other places task t (Some (length trail)) None apart in
          let (inside, here) = is.known t i (sym kept ∙ at) in
          (rw length-append (omega (arith, inside)), get_or_append_left trail (task ∷ []) 0 i inside ∙ here))
    ]

    new' : (t : ℕ) → t < count → get_or (set places task (Some (length trail))) t None ≡ None → Contains (trail ++ task ∷ []) t → ⊥
    new' t t_in at held = elim (cases_eq t task) [
      | inl same ↦ (
          let written = get_or-set_same places task (Some (length trail)) None (omega (arith, is.full, task_in)) in
          let at' = rw same at at in
          absurd (cc (written, at')))
      | inr apart ↦ (
          let kept = get_or-set_other places task t (Some (length trail)) None apart in
          elim (Contains-push_cases trail task t held) [
            | inl before ↦ is.new t t_in (sym kept ∙ at) before
            | inr same ↦ apart (sym same)
          ])
    ]

-- the first waiting predecessor of a rising row is the smallest
pub IsStepBack-first : (rows : List (List Edge)) (pending : List ℕ) (t : ℕ) (row : List Edge) (i : ℕ) (d : Edge) → row ≡ get_or rows t []
    → AllPairs (λ e f. e.task.0 < f.task.0) (get_or rows t []) → i < length row
    → AllWithin (λ e. IsWaiting pending e.task.0 → ⊥) row 0 i → IsWaiting pending (get_or row i d).task.0
    → IsStepBack (IsWaiting pending) (Precedes rows) t (get_or row i d).task.0
IsStepBack-first rows pending t row i d same rising inside before waits = record {
  has = (waits, rw (← same) (i, get_or row i d, inside, get_or_default row i (get_or row i d) d inside, refl));
  least = least;
}
  where
    least : (b : ℕ) → IsWaiting pending b × Precedes rows b t → (get_or row i d).task.0 ≤ b
    least b (waits_b, edge) =
        let (k, e, k_in, at, to_b) = rw (← same) at edge in
        elim (cases_lt k i) [
          | inl less ↦ absurd (before k e (omega arith) less (rw (at, to_b) waits_b))
          | inr past ↦ elim (cases_eq k i) [
            | inl here ↦ (
                let read : (get_or row k e).task.0 ≡ b = ap (λ (f : Edge). f.task.0) at ∙ to_b in
                let read' = rw here at read in
                let own = ap (λ (f : Edge). f.task.0) (get_or_default row i d e inside) in
                omega (arith, read', own))
            | inr apart ↦ (
                let rising' = rw (← same) at rising in
                let less = rising' i k e (omega (arith, past, apart)) k_in in
                let read : (get_or row k e).task.0 ≡ b = ap (λ (f : Edge). f.task.0) at ∙ to_b in
                let own = ap (λ (f : Edge). f.task.0) (get_or_default row i d e inside) in
                omega (arith, less, read, own))
          ]
        ]
