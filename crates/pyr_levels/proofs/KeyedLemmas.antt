-- A pass along an order in which each task follows the last one with its key (its processor, its
-- label) and the tasks whose edges lead to it: what stands directly before a task, and its top level.
use Rattle.std.proofs.Common.{◌≡◌, ◌≢◌, ℕ, zero, suc, ◌+◌, ◌<◌, ◌≤◌, ◌⊎◌, inl, inr, true, false, max, Option, Some, None, List, [], ◌∷◌, ◌++◌, length, take, drop, arith, refl, ap, sym, ◌∙◌, eqb-true}
use Rattle.std.specs.Prelude.{slice_index, nat_eq, filter, Contains}
use Rattle.std.proofs.lemmas.Bool.{cases_Bool, cases_lt, false_from_ne_true}
use Rattle.std.proofs.lemmas.Grind.{get_or_default_zero}
use Rattle.std.proofs.lemmas.List.{take-append-drop, get_or-take, get_or-drop, length-take-le, length-drop}
use Rattle.std.proofs.lemmas.List.Elements.{filter-append}
use Rattle.std.proofs.Math.Seq.{drop-cons}
use Rattle.pyr_seq.specs.Walk.{IsTopological}
use Rattle.pyr_graph.proofs.ListLemmas.{Contains-tested, nat_eq-same, nat_eq-apart}
use Rattle.pyr_levels.specs.Path.{Weighted, IsTlevel}
use Rattle.pyr_graph.specs.Numbers.{holds}
use Rattle.pyr_levels.specs.Scheduled.{Follows, last_of}
use Rattle.pyr_levels.proofs.Places.{place_of}
use Rattle.pyr_levels.proofs.TlevelLemmas.{tlevel_step}
use Rattle.pyr_levels.proofs.ScheduledLemmas.{or-true, last_in}
use Rattle.pyr_levels.proofs.FollowsLemmas.{last_of-push, Follows-holds, Follows-last, last-Follows}

-- the tasks with this key among these, in order
abbrev pub keyed : (ℕ → ℕ) → List ℕ → ℕ → List ℕ
keyed key tasks k = filter (λ t. nat_eq (key t) k) tasks

-- b directly follows a among the tasks of one key
abbrev pub FollowsKeyed : (ℕ → ℕ) → List ℕ → ℕ → ℕ → Type 0
FollowsKeyed key order a b = (k : ℕ) × Follows (keyed key order k) a b

-- what a filter by key keeps has the key, and stood in the list
pub keyed-held : (key : ℕ → ℕ) (xs : List ℕ) (k t : ℕ) → holds (keyed key xs k) t ≡ true → (holds xs t ≡ true) × (key t ≡ k)
keyed-held key [] k t held = absurd (let e : false ≡ true = held in cc)
keyed-held key (x ∷ xs) k t held = elim (cases_Bool (nat_eq (key x) k)) [
  | inl is ↦ elim (cases_Bool (nat_eq t x)) [
    | inl here ↦ (let same : t ≡ x = eqb-true t x here in (rw here, rw same (eqb-true (key x) k is)))
    | inr other ↦ (let later = keyed-held key xs k t (rw (is, other) at held) in (rw later.0 (or-true (nat_eq t x)), later.1))
  ]
  | inr is ↦ (let later = keyed-held key xs k t (rw is at held) in (rw later.0 (or-true (nat_eq t x)), later.1))
]

pub held-keyed : (key : ℕ → ℕ) (xs : List ℕ) (k t : ℕ) → holds xs t ≡ true → key t ≡ k → holds (keyed key xs k) t ≡ true
held-keyed key [] k t held same = held
held-keyed key (x ∷ xs) k t held same = elim (cases_Bool (nat_eq t x)) [
  | inl here ↦ (let is : t ≡ x = eqb-true t x here in let keeps : nat_eq (key x) k ≡ true = nat_eq-same (key x) k (ap key (sym is) ∙ same) in rw (keeps, here))
  | inr other ↦ (
      let later : holds (keyed key xs k) t ≡ true = held-keyed key xs k t (rw other at held) same in
      elim (cases_Bool (nat_eq (key x) k)) [
        | inl is ↦ rw (is, later) (or-true (nat_eq t x))
        | inr is ↦ rw is later
      ])
]

-- the one that is followed is in the list too
pub Follows-first : (xs : List ℕ) (a b : ℕ) → Follows xs a b → holds xs a ≡ true
Follows-first [] a b none = absurd none
Follows-first (x ∷ []) a b none = absurd none
Follows-first (x ∷ y ∷ rest) a b (inl here) = rw (nat_eq-same a x (sym here.0))
Follows-first (x ∷ y ∷ rest) a b (inr there) = rw (Follows-first (y ∷ rest) a b there) (or-true (nat_eq a x))

-- both neighbours have the key, and stand in the order
pub FollowsKeyed-keys : (key : ℕ → ℕ) (order : List ℕ) (a b : ℕ) → FollowsKeyed key order a b → key a ≡ key b
FollowsKeyed-keys key order a b (k, follows) =
    (keyed-held key order k a (Follows-first (keyed key order k) a b follows)).1
    ∙ sym (keyed-held key order k b (Follows-holds (keyed key order k) a b follows)).1

-- the last task of a key, with one task more
keyed-push : (key : ℕ → ℕ) (xs : List ℕ) (t k : ℕ) → keyed key (xs ++ t ∷ []) k ≡ keyed key xs k ++ keyed key (t ∷ []) k
keyed-push key xs t k = filter-append (λ u. nat_eq (key u) k) xs (t ∷ [])

append-none : (ys : List ℕ) → ys ++ [] ≡ ys
append-none [] = refl
append-none (y ∷ ys) = ap (λ (rest : List ℕ). y ∷ rest) (append-none ys)

pub last-here : (key : ℕ → ℕ) (xs : List ℕ) (t k : ℕ) → key t ≡ k → last_of (keyed key (xs ++ t ∷ []) k) ≡ Some t
last-here key xs t k same = rw (keyed-push key xs t k, nat_eq-same (key t) k same) (last_of-push (keyed key xs k) t)

pub last-other : (key : ℕ → ℕ) (xs : List ℕ) (t k : ℕ) → key t ≢ k → last_of (keyed key (xs ++ t ∷ []) k) ≡ last_of (keyed key xs k)
last-other key xs t k apart = rw (keyed-push key xs t k, nat_eq-apart (key t) k apart, append-none (keyed key xs k))

-- where each of two neighbours ends before the other starts, so do any two
pub in-order : (start cost : ℕ → ℕ) (xs : List ℕ) → ((a b : ℕ) → Follows xs a b → start a + cost a ≤ start b)
    → (i j : ℕ) → i < j → j < length xs → start (slice_index xs i) + cost (slice_index xs i) ≤ start (slice_index xs j)
in-order start cost [] rises i j less inside = absurd (omega arith)
in-order start cost (x ∷ []) rises i zero less inside = absurd (omega arith)
in-order start cost (x ∷ []) rises i (suc j) less inside = absurd (omega arith)
in-order start cost (x ∷ y ∷ rest) rises i zero less inside = absurd (omega arith)
in-order start cost (x ∷ y ∷ rest) rises zero (suc zero) less inside = rises x y (inl (refl, refl))
in-order start cost (x ∷ y ∷ rest) rises zero (suc (suc j)) less inside =
    let first = rises x y (inl (refl, refl)) in
    let later = in-order start cost (y ∷ rest) (λ a b follows. rises a b (inr follows)) zero (suc j) (omega arith) (omega arith) in
    omega (arith, first, later)
in-order start cost (x ∷ y ∷ rest) rises (suc i) (suc j) less inside =
    in-order start cost (y ∷ rest) (λ a b follows. rises a b (inr follows)) i j (omega arith) (omega arith)

-- what stands among the first of an order has a place there
pub place-before : (order : List ℕ) (i u : ℕ) → i ≤ length order → Contains (take i order) u → (j : ℕ) × (j < i) × (slice_index order j ≡ u)
place-before order i u within (j, j_in, here) =
    let short : j < i = rw (length-take-le i order within) at j_in in
    (j, short, sym (get_or_default_zero order j u (omega arith)) ∙ (sym (get_or-take i order j u short) ∙ here))

pub held-before : (order : List ℕ) (i j u : ℕ) → j < i → i ≤ length order → slice_index order j ≡ u → Contains (take i order) u
held-before order i j u less within here =
    let short : j < length (take i order) = rw (length-take-le i order within) less in
    (j, short, get_or-take i order j u less ∙ (get_or_default_zero order j u (omega arith) ∙ here))

-- An order in which each task stands once.
module _ (key : ℕ → ℕ) (order : List ℕ)
    (once : (i j : ℕ) → i < length order → j < length order → slice_index order i ≡ slice_index order j → i ≡ j)
    (i : ℕ) (inside : i < length order) where
  keyed-parts : (k : ℕ) → key (slice_index order i) ≡ k
      → keyed key order k ≡ keyed key (take i order) k ++ slice_index order i ∷ keyed key (drop (suc i) order) k
  keyed-parts k here =
      let test = λ (t : ℕ). nat_eq (key t) k in
      let parts : order ≡ take i order ++ slice_index order i ∷ drop (suc i) order =
      sym (take-append-drop i order) ∙ ap (λ (rest : List ℕ). take i order ++ rest) (drop-cons order i 0 inside) in
      let kept : filter test (slice_index order i ∷ drop (suc i) order) ≡ slice_index order i ∷ filter test (drop (suc i) order) = rw (nat_eq-same (key (slice_index order i)) k here) in
      ap (filter test) parts ∙ (filter-append test (take i order) (slice_index order i ∷ drop (suc i) order) ∙ ap (λ (rest : List ℕ). filter test (take i order) ++ rest) kept)

  -- the task of this place stands nowhere before it
  pub not-before : Contains (take i order) (slice_index order i) → ⊥
  not-before held =
      let (j, less, here) = place-before order i (slice_index order i) (omega arith) held in
      let same = once j i (omega arith) inside here in
      omega (arith, same, less)

  not-after : Contains (drop (suc i) order) (slice_index order i) → ⊥
  not-after (k, k_in, here) =
      let j_in : suc i + k < length order = omega (arith, length-drop (suc i) order) in
      let there : slice_index order (suc i + k) ≡ slice_index order i =
      sym (get_or_default_zero order (suc i + k) (slice_index order i) j_in) ∙ (sym (get_or-drop (suc i) order k (slice_index order i)) ∙ here) in
      let same = once (suc i + k) i j_in inside there in
      omega (arith, same)

  alone : (xs : List ℕ) (k : ℕ) → (Contains xs (slice_index order i) → ⊥) → holds (keyed key xs k) (slice_index order i) ≡ false
  alone xs k none = false_from_ne_true (holds (keyed key xs k) (slice_index order i)) (λ held.
      none (Contains-tested (slice_index order i) xs (keyed-held key xs k (slice_index order i) held).0))

  -- what a task follows is the last task of its key so far, and back
  pub follows-last : (u : ℕ) → FollowsKeyed key order u (slice_index order i)
      → last_of (keyed key (take i order) (key (slice_index order i))) ≡ Some u
  follows-last u (k, there) =
      let same = (keyed-held key order k (slice_index order i) (Follows-holds (keyed key order k) u (slice_index order i) there)).1 in
      rw same (Follows-last (keyed key (take i order) k) (slice_index order i) (keyed key (drop (suc i) order) k) u
      (alone (take i order) k not-before) (alone (drop (suc i) order) k not-after) (rw (keyed-parts k same) at there))

  pub last-follows : (u : ℕ) → last_of (keyed key (take i order) (key (slice_index order i))) ≡ Some u
      → FollowsKeyed key order u (slice_index order i)
  last-follows u last = (
    key (slice_index order i),
    rw (keyed-parts (key (slice_index order i)) refl)
        (last-Follows (keyed key (take i order) (key (slice_index order i))) (slice_index order i) (keyed key (drop (suc i) order) (key (slice_index order i))) u last),
  )

-- the last task of a key so far stands before this place, and has the key
pub last-before : (key : ℕ → ℕ) (xs : List ℕ) (k u : ℕ) → last_of (keyed key xs k) ≡ Some u → Contains xs u × (key u ≡ k)
last-before key xs k u last =
    let (held, same) = keyed-held key xs k u (last_in (keyed key xs k) u last) in
    (Contains-tested u xs held, same)

-- A graph of tasks below a count whose links are edges, which lead forward in the order, and the
-- neighbours of one key, between which nothing weighs.
pub record IsKeyed (g : Weighted) (count : ℕ) (IsEdge : ℕ → ℕ → Type 0) (key : ℕ → ℕ) (order : List ℕ) : Type 0 where
  pub top : IsTopological count IsEdge order
  pub task : (t : ℕ) → t < count → g.IsTask t
  pub below : (t : ℕ) → g.IsTask t → t < count
  pub link : (a b : ℕ) → a < count → b < count → g.IsLink a b → IsEdge a b ⊎ FollowsKeyed key order a b
  pub edge : (a b : ℕ) → a < count → b < count → IsEdge a b → g.IsLink a b
  pub follow : (a b : ℕ) → a < count → b < count → FollowsKeyed key order a b → g.IsLink a b
  pub free : (a b : ℕ) → a < count → b < count → key a ≡ key b → g.weight a b ≡ 0

-- when what the edges carry is at a task: nothing is later, and it is 0 or some arrival
pub record IsLatestArrival (g : Weighted) (count : ℕ) (IsEdge : ℕ → ℕ → Type 0) (start : ℕ → ℕ) (t latest : ℕ) : Type 0 where
  pub above : (u : ℕ) → u < count → IsEdge u t → start u + (g.cost u + g.weight u t) ≤ latest
  pub reached : (latest ≡ 0) ⊎ ((u : ℕ) × (u < count) × IsEdge u t × (start u + (g.cost u + g.weight u t) ≡ latest))

-- the finish of the last task of a key, or 0
abbrev pub EndsAt : Weighted → (ℕ → ℕ) → Option ℕ → ℕ → Type 0
EndsAt g start None end = end ≡ 0
EndsAt g start (Some u) end = end ≡ start u + g.cost u

-- The top level of a task is the greater of the end of the last task of its key and of the latest arrival.
module _ (g : Weighted) (count : ℕ) (IsEdge : ℕ → ℕ → Type 0) (key : ℕ → ℕ) (order : List ℕ) (is : IsKeyed g count IsEdge key order)
    (start : ℕ → ℕ) (i : ℕ) (inside : i < count) where
  abbrev t : ℕ
  t = slice_index order i

  place_in : i < length order
  place_in = omega (arith, is.top.full)

  once : (i j : ℕ) → i < length order → j < length order → slice_index order i ≡ slice_index order j → i ≡ j
  once i j i_in j_in same = is.top.once i j (omega (arith, is.top.full)) (omega (arith, is.top.full)) same

  pub task-here : slice_index order i < count
  task-here = is.top.tasks i 0 place_in

  -- what is linked to a task stands before it
  pub linked-before : (u : ℕ) → u < count → g.IsLink u (slice_index order i) → (j : ℕ) × (j < i) × (slice_index order j ≡ u)
  linked-before u u_in link = elim (is.link u t u_in task-here link) [
    | inl edge ↦
        let (j, j_in, here) = place_of count IsEdge order is.top u u_in in
        (j, is.top.before j i j_in inside (rw here edge), here)
    | inr follows ↦
        place-before order i u (omega arith) (last-before key (take i order) (key t) u (follows-last key order once i place_in u follows)).0
  ]

  module _ (end latest level : ℕ) (ends : EndsAt g start (last_of (keyed key (take i order) (key (slice_index order i)))) end)
      (arrives : IsLatestArrival g count IsEdge start (slice_index order i) latest) (most : level ≡ max end latest) where
    pub level-above : (u : ℕ) → u < count → g.IsLink u (slice_index order i) → start u + (g.cost u + g.weight u (slice_index order i)) ≤ level
    level-above u u_in link = elim (is.link u t u_in task-here link) [
      | inl edge ↦ omega (arith, arrives.above u u_in edge)
      | inr follows ↦
          let at_end = rw (follows-last key order once i place_in u follows) at ends in
          omega (arith, at_end, is.free u t u_in task-here (FollowsKeyed-keys key order u t follows))
    ]

    abbrev Reached : Type 0
    Reached = (level ≡ 0) ⊎ ((u : ℕ) × (u < count) × g.IsLink u t × (start u + (g.cost u + g.weight u t) ≡ level))

    by-end : latest ≤ end → (o : Option ℕ) → last_of (keyed key (take i order) (key t)) ≡ o → Reached
    by-end later None none = inl (let at_end = rw none at ends in omega (arith, at_end))
    by-end later (Some u) last =
        let (held, same) = last-before key (take i order) (key t) u last in
        let (j, less, here) = place-before order i u (omega arith) held in
        let u_in : u < count = rw here at (is.top.tasks j 0 (omega arith)) in
        let at_end = rw last at ends in
        inr (
          u,
          u_in,
          is.follow u t u_in task-here (last-follows key order once i place_in u last),
          omega (arith, at_end, is.free u t u_in task-here same),
        )

    pub level-reached : (level ≡ 0) ⊎ ((u : ℕ) × (u < count) × g.IsLink u (slice_index order i) × (start u + (g.cost u + g.weight u (slice_index order i)) ≡ level))
    level-reached = elim (cases_lt end latest) [
      | inl sooner ↦ elim arrives.reached [
        | inl none ↦ inl (omega (arith, none))
        | inr (u, u_in, edge, same) ↦ inr (u, u_in, is.edge u t u_in task-here edge, omega (arith, same))
      ]
      | inr later ↦ by-end later (last_of (keyed key (take i order) (key t))) refl
    ]

    -- from the top levels of the tasks before it
    pub keyed_step : ((j : ℕ) → j < i → IsTlevel g (slice_index order j) (start (slice_index order j))) → IsTlevel g (slice_index order i) level
    keyed_step before =
        tlevel_step g t level start (is.task t task-here)
        (λ u task link. let (j, less, here) = linked-before u (is.below u task) link in rw here at (before j less))
        (λ u task link. level-above u (is.below u task) link)
        (elim level-reached [
          | inl none ↦ inl none
          | inr (u, u_in, link, same) ↦ inr (u, is.task u u_in, link, same)
        ])
