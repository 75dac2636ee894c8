-- What one step changes in the two queues of a clustering: the examined task leaves the free ones, the
-- tasks that read from it get new entries, and all other entries are as before.
use Rattle.std.proofs.Common.{◌≡◌, ◌≢◌, ℕ, ◌+◌, ◌<◌, ◌≤◌, Bool, true, false, cond, Option, Some, None, List, [], ◌∷◌, inl, inr, refl, arith, ap, sym, ◌∙◌}
use Rattle.std.specs.Prelude.{◌&&◌, not, nat_eq, nat_lt, filter, IfSome}
use Rattle.std.specs.List.{list_any, list_all}
use Rattle.std.proofs.lemmas.Bool.{cases_eq, false_from_ne_true, ltb-true, lt-ltb}
use Rattle.pyr_seq.specs.Walk.{IsTopological}
use Rattle.pyr_graph.specs.System.{task_count, weight_of, IsEdge}
use Rattle.pyr_graph.specs.Numbers.{holds, greatest}
use Rattle.pyr_graph.specs.Edges.{has_edge}
use Rattle.pyr_graph.proofs.ListLemmas.{nat_eq-same, nat_eq-apart}
use Rattle.pyr_graph.proofs.NumberLemmas.{kept-number, number-kept, passes-some, holds-list_all, kept-held, greatest-ge, greatest-low, greatest-same}
use Rattle.pyr_graph.proofs.SenderLemmas.{has_edge-IsEdge}
use Rattle.pyr_levels.specs.Levels.{AreBlevels}
use Rattle.pyr_levels.specs.Scheduled.{AreTlevels}
use Rattle.pyr_levels.proofs.ClusterLemmas.{and-true}
use Rattle.pyr_levels.proofs.ScheduledLemmas.{or-true}
use Rattle.pyr_lists.specs.Queue.{Queue, IsChanged}
use Rattle.pyr_dsc.specs.State.{State, blevel, predecessors, examined_predecessors, is_examined, is_free, is_partly_free, arrival, partial_tlevel, priority, partial_priority}
use Rattle.pyr_dsc.specs.Run.{state}
use Rattle.pyr_dsc.specs.Queues.{free_entry, partly_free_entry, IsFreeQueue, IsPartlyFreeQueue, IsAfter, IsBetween, entry_without, free_then, partly_free_then}
use Rattle.pyr_dsc.proofs.HeldLemmas.{or-false, and-false, not-true, not-both, held-kept}
use Rattle.pyr_dsc.proofs.ClosedLemmas.{IsClosed}
use Rattle.pyr_dsc.proofs.TimeLemmas.{free-arrival}
use Rattle.pyr_dsc.proofs.QueueLemmas.{IsBetween-start, IsBetween-end}

-- two tests that agree on a list
module _ (p q : ℕ → Bool) where
  list_all-same : (xs : List ℕ) → ((x : ℕ) → holds xs x ≡ true → p x ≡ q x) → list_all p xs ≡ list_all q xs
  list_all-same [] same = refl
  list_all-same (x ∷ xs) same =
      let here : p x ≡ q x = same x (rw (nat_eq-same x x refl)) in
      rw (here, list_all-same xs (λ y held. same y (rw held (or-true (nat_eq y x)))))

  list_any-same : (xs : List ℕ) → ((x : ℕ) → holds xs x ≡ true → p x ≡ q x) → list_any p xs ≡ list_any q xs
  list_any-same [] same = refl
  list_any-same (x ∷ xs) same =
      let here : p x ≡ q x = same x (rw (nat_eq-same x x refl)) in
      rw (here, list_any-same xs (λ y held. same y (rw held (or-true (nat_eq y x)))))

  filter-same : (xs : List ℕ) → ((x : ℕ) → holds xs x ≡ true → p x ≡ q x) → filter p xs ≡ filter q xs
  filter-same [] same = refl
  filter-same (x ∷ xs) same =
      let here : p x ≡ q x = same x (rw (nat_eq-same x x refl)) in
      rw (here, filter-same xs (λ y held. same y (rw held (or-true (nat_eq y x)))))

-- an entry, where the number passes
some-if : (b : Bool) (k l : ℕ) → (b ≡ true → k ≡ l) → cond b (Some k) None ≡ cond b (Some l) None
some-if true k l same = ap Some (same refl)
some-if false k l same = refl

IfSome-if : (b : Bool) (k most : ℕ) → k ≤ most → IfSome (cond b (Some k) None) (λ p. p ≤ most)
IfSome-if true k most low = low
IfSome-if false k most low = tt

module _ (z : State) (x : ℕ) (clusters : List (List ℕ)) (tlevels : List ℕ) (is_after : IsAfter z x clusters tlevels) where
  abbrev after : State
  after = state z.system z.blevels clusters tlevels

  examined-apart : (t : ℕ) → t ≢ x → is_examined after t ≡ is_examined z t
  examined-apart t apart = is_after.examined t ∙ rw (nat_eq-apart t x apart) (or-false (is_examined z t))

  examined-kept : (t : ℕ) → is_examined z t ≡ true → is_examined after t ≡ true
  examined-kept t is = is_after.examined t ∙ rw is

  x-examined : is_examined after x ≡ true
  x-examined = is_after.examined x ∙ rw (nat_eq-same x x refl) (or-true (is_examined z x))

  -- what comes from an examined predecessor of a task that isn't examined comes when it did
  arrival-kept : (t u : ℕ) → is_examined after t ≡ false → holds (examined_predecessors z t) u ≡ true → arrival after t u ≡ arrival z t u
  arrival-kept t u new held =
      let (before, is) = kept-held (is_examined z) (predecessors z t) u held in
      let (u_in, test) = kept-number (λ a. has_edge z.system a t) (task_count z.system) u before in
      ap (λ (n : ℕ). n + weight_of z.system u t) (is_after.finishes u t is (has_edge-IsEdge z.system u t test) new)

  -- ---- a task that doesn't read from x
  module _ (t : ℕ) (apart : t ≢ x) (other : has_edge z.system x t ≡ false) where
    before-same : (u : ℕ) → holds (predecessors z t) u ≡ true → is_examined after u ≡ is_examined z u
    before-same u held = examined-apart u (λ same.
        let test = (kept-number (λ a. has_edge z.system a t) (task_count z.system) u held).1 in
        not-both (has_edge z.system x t) other (rw same at test))

    free-same : is_free after t ≡ is_free z t
    free-same = rw (examined-apart t apart, list_all-same (is_examined after) (is_examined z) (predecessors z t) before-same)

    partly_free-same : is_partly_free after t ≡ is_partly_free z t
    partly_free-same =
        rw (
          examined-apart t apart,
          list_all-same (is_examined after) (is_examined z) (predecessors z t) before-same,
          list_any-same (is_examined after) (is_examined z) (predecessors z t) before-same,
        )

    latest-same : is_examined after t ≡ false → partial_tlevel after t ≡ partial_tlevel z t
    latest-same new =
        ap (λ (us : List ℕ). greatest (arrival after t) us) (filter-same (is_examined after) (is_examined z) (predecessors z t) before-same)
        ∙ greatest-same (arrival after t) (arrival z t) (examined_predecessors z t) (λ u held. arrival-kept t u new held)

    pub partly_free_entry-same : partly_free_entry after t ≡ partly_free_entry z t
    partly_free_entry-same =
        rw partly_free-same (some-if (nat_lt t (task_count z.system) && is_partly_free z t) (partial_priority after t) (partial_priority z t) (λ is.
        let partly = (and-true (nat_lt t (task_count z.system)) (is_partly_free z t) is).1 in
        let new = not-true (is_examined z t) (and-true (not (is_examined z t)) _ partly).0 in
        ap (λ (n : ℕ). n + blevel z t) (latest-same (examined-apart t apart ∙ new))))

  -- ---- x is examined, and was free
  pub free_entry-gone : free_entry after x ≡ None
  free_entry-gone = rw (x-examined, and-false (nat_lt x (task_count z.system)))

  pub partly_free_entry-gone : partly_free_entry after x ≡ None
  partly_free_entry-gone = rw (x-examined, and-false (nat_lt x (task_count z.system)))

  -- no task reads from x but those that are done
  unread : (done : List ℕ) → ((t : ℕ) → IsEdge z.system x t → holds done t ≡ true) → (t : ℕ) → holds done t ≡ false → has_edge z.system x t ≡ false
  unread done all t none = false_from_ne_true (has_edge z.system x t) (λ reads. not-both (holds done t) none (all t (has_edge-IsEdge z.system x t reads)))

  module _ (x_in : x < task_count z.system) (free : is_free z x ≡ true) where
    x-new : is_examined z x ≡ false
    x-new = not-true (is_examined z x) (and-true (not (is_examined z x)) (list_all (is_examined z) (predecessors z x)) free).0

    x-all : list_all (is_examined z) (predecessors z x) ≡ true
    x-all = (and-true (not (is_examined z x)) (list_all (is_examined z) (predecessors z x)) free).1

    pub partly_free_entry-none : partly_free_entry z x ≡ None
    partly_free_entry-none =
        rw (x-new, x-all, and-false (list_any (is_examined z) (predecessors z x)), and-false (nat_lt x (task_count z.system)))

    -- the queue of partly free tasks, while the tasks that read from x get their new entries
    pub partly_free-start : (q : Queue) → IsPartlyFreeQueue z q → IsBetween (partly_free_entry z) (partly_free_entry after) [] q
    partly_free-start q is = IsBetween-start (partly_free_entry z) (partly_free_entry after) q is

    pub partly_free-end : (done : List ℕ) (q : Queue) → ((t : ℕ) → IsEdge z.system x t → holds done t ≡ true)
        → IsBetween (partly_free_entry z) (partly_free_entry after) done q → IsPartlyFreeQueue after q
    partly_free-end done q all is = IsBetween-end (partly_free_entry z) (partly_free_entry after) done q is (λ t none. elim (cases_eq t x) [
      | inl same ↦ rw same (partly_free_entry-gone ∙ sym partly_free_entry-none)
      | inr apart ↦ partly_free_entry-same t apart (unread done all t none)
    ])

    -- ---- a task that reads from x
    module _ (closed : IsClosed z.system z.clusters) (t : ℕ) (t_in : t < task_count z.system) (reads : has_edge z.system x t ≡ true) where
      reader-held : holds (predecessors z t) x ≡ true
      reader-held = number-kept (λ a. has_edge z.system a t) (task_count z.system) x x_in reads

      pub reader-apart : t ≢ x
      reader-apart same =
          let own : holds (predecessors z x) x ≡ true = number-kept (λ a. has_edge z.system a x) (task_count z.system) x x_in (rw same at reads) in
          not-both (is_examined z x) x-new (holds-list_all (is_examined z) (predecessors z x) x x-all own)

      reader-new : is_examined z t ≡ false
      reader-new = false_from_ne_true (is_examined z t) (λ is. not-both (is_examined z x) x-new (closed x t (has_edge-IsEdge z.system x t reads) is))

      pub reader-still_new : is_examined after t ≡ false
      reader-still_new = examined-apart t reader-apart ∙ reader-new

      pub reader-some : list_any (is_examined after) (predecessors z t) ≡ true
      reader-some = passes-some (is_examined after) (predecessors z t) x reader-held x-examined

      reader-waits : list_all (is_examined z) (predecessors z t) ≡ false
      reader-waits = false_from_ne_true (list_all (is_examined z) (predecessors z t)) (λ all.
          not-both (is_examined z x) x-new (holds-list_all (is_examined z) (predecessors z t) x all reader-held))

      -- it wasn't free
      pub free_entry-none : free_entry z t ≡ None
      free_entry-none = rw (reader-new, reader-waits, and-false (nat_lt t (task_count z.system)))

      -- and is free now where all are examined that it reads from, else partly free
      pub partly_free_entry-then : partly_free_entry after t ≡ partly_free_then after t
      partly_free_entry-then = rw (lt-ltb t (task_count z.system) t_in, reader-still_new, reader-some) (flip (list_all (is_examined after) (predecessors z t)))
        where
          flip : (b : Bool) → cond (not b) (Some (partial_priority after t)) None ≡ cond b None (Some (partial_priority after t))
          flip true = refl
          flip false = refl

      -- its data come no earlier than those that it had before
      pub priority-rises : partial_priority z t ≤ partial_priority after t
      priority-rises =
          let low = greatest-low (arrival z t) (partial_tlevel after t) (examined_predecessors z t) (λ u held.
          let (before, is) = kept-held (is_examined z) (predecessors z t) u held in
          let still = held-kept (is_examined after) (predecessors z t) u before (examined-kept u is) in
          let most = greatest-ge (arrival after t) (examined_predecessors after t) u still in
          let same = arrival-kept t u reader-still_new held in
          omega (arith, most, same)) in
          omega (arith, low)

      pub partly_free_entry-rises : IfSome (partly_free_entry z t) (λ p. p ≤ partial_priority after t)
      partly_free_entry-rises =
          IfSome-if (nat_lt t (task_count z.system) && is_partly_free z t) (partial_priority z t) (partial_priority after t) priority-rises

  -- ---- the priorities of free tasks, which are told by their top levels
  module _ (order : List ℕ) (top : IsTopological (task_count z.system) (IsEdge z.system) order) (bottom : AreBlevels z.system z.blevels)
      (are : AreTlevels z.system z.clusters z.tlevels) (closed : IsClosed z.system z.clusters)
      (are' : AreTlevels z.system clusters tlevels) (closed' : IsClosed z.system clusters)
    where
      free-priority : (t : ℕ) → t < task_count z.system → is_free after t ≡ true → priority after t ≡ partial_priority after t
      free-priority t t_in free = ap (λ (n : ℕ). n + blevel z t) (sym (free-arrival after order top bottom are' closed' t t_in free))

      pub free_entry-same : (t : ℕ) → t ≢ x → has_edge z.system x t ≡ false → free_entry after t ≡ free_entry z t
      free_entry-same t apart other =
          rw (free-same t apart other) (some-if (nat_lt t (task_count z.system) && is_free z t) (priority after t) (priority z t) (λ is.
          let both = and-true (nat_lt t (task_count z.system)) (is_free z t) is in
          let t_in = ltb-true t (task_count z.system) both.0 in
          let new = not-true (is_examined z t) (and-true (not (is_examined z t)) _ both.1).0 in
          let latest = latest-same t apart other (examined-apart t apart ∙ new) in
          let now = free-arrival after order top bottom are' closed' t t_in (free-same t apart other ∙ both.1) in
          let before = free-arrival z order top bottom are closed t t_in both.1 in
          ap (λ (n : ℕ). n + blevel z t) (sym now ∙ (latest ∙ before))))

      pub free_entry-then : (x_in : x < task_count z.system) (free : is_free z x ≡ true) (t : ℕ) (t_in : t < task_count z.system)
          (reads : has_edge z.system x t ≡ true) → free_entry after t ≡ free_then after t
      free_entry-then x_in free t t_in reads =
          rw (lt-ltb t (task_count z.system) t_in, reader-still_new x_in free closed t t_in reads)
          (some-if (list_all (is_examined after) (predecessors z t)) (priority after t) (partial_priority after t) (λ all.
          free-priority t t_in (rw (reader-still_new x_in free closed t t_in reads, all))))

      -- the queue of free tasks, once x is taken out
      pub free-start : (q next : Queue) → IsFreeQueue z q → IsChanged q next x None → IsBetween (entry_without x (free_entry z)) (free_entry after) [] next
      free-start q next is changed = IsBetween-start (entry_without x (free_entry z)) (free_entry after) next (λ t.
          changed t ∙ ap (λ (o : Option ℕ). cond (nat_eq t x) None o) (is t))

      pub free-end : (done : List ℕ) (q : Queue) → ((t : ℕ) → IsEdge z.system x t → holds done t ≡ true)
          → IsBetween (entry_without x (free_entry z)) (free_entry after) done q → IsFreeQueue after q
      free-end done q all is = IsBetween-end (entry_without x (free_entry z)) (free_entry after) done q is (λ t none. elim (cases_eq t x) [
        | inl same ↦ rw (nat_eq-same t x same, same) free_entry-gone
        | inr apart ↦ rw (nat_eq-apart t x apart) (free_entry-same t apart (unread done all t none))
      ])
