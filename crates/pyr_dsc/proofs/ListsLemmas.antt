-- The lists while the tasks that read from the examined one get their places.
use Rattle.std.proofs.Common.{◌≡◌, ℕ, zero, suc, ◌<◌, true, false, None, List, [], ◌∷◌, ◌++◌, refl, arith, inl, inr, sym, ◌∙◌, length, get_or, take}
use Rattle.std.specs.Prelude.{nat_lt}
use Rattle.std.specs.List.{list_any, AllByRecursion}
use Rattle.std.proofs.lemmas.Bool.{cases_eq, false_from_ne_true}
use Rattle.pyr_graph.specs.declared.edge.Edge.{Edge}
use Rattle.pyr_graph.specs.System.{task_count, IsEdge, AreSuccessors}
use Rattle.pyr_graph.specs.Numbers.{holds}
use Rattle.pyr_graph.specs.Edges.{has_edge, senders}
use Rattle.pyr_graph.proofs.IndexLemmas.{edge_in}
use Rattle.pyr_seq.specs.Walk.{IsTopological}
use Rattle.pyr_graph.proofs.ListLemmas.{nat_eq-same, nat_eq-apart}
use Rattle.pyr_graph.proofs.NumberLemmas.{Rises}
use Rattle.pyr_graph.proofs.SenderLemmas.{sender-held, senders-rise, senders-all, has_edge-IsEdge, IsEdge-has_edge}
use Rattle.pyr_levels.specs.Scheduled.{AreTlevels}
use Rattle.pyr_levels.specs.Levels.{AreBlevels}
use Rattle.pyr_lists.specs.Queue.{priority_of, IsChanged}
use Rattle.pyr_dsc.specs.declared.lists.Lists.{Lists}
use Rattle.pyr_dsc.specs.State.{State, is_free, priority, is_examined, predecessors}
use Rattle.pyr_dsc.specs.Queues.{IsQueueOf, free_entry, partly_free_entry, IsAfter, IsBetween}
use Rattle.pyr_dsc.specs.Run.{state}
use Rattle.pyr_dsc.specs.Lists.{AreLists, IsPlaced, IsWaiting}
use Rattle.pyr_dsc.proofs.HeldLemmas.{and-false, not-both}
use Rattle.pyr_dsc.proofs.ClosedLemmas.{IsClosed}
use Rattle.pyr_dsc.proofs.TimeLemmas.{free-arrival}
use Rattle.pyr_dsc.proofs.QueueStepLemmas.{free_entry-gone, free_entry-none, free_entry-same, partly_free_entry-gone, partly_free_entry-none, partly_free_entry-same, partly_free_entry-rises, reader-apart, reader-some, reader-still_new}
use Rattle.pyr_dsc.proofs.QueueLemmas.{IsBetween-start, between-old, IsBetween-changed, IsBetween-end}

-- the lists have the new places of these tasks, and are as before at all others
pub record AreUpTo (z : State) (old mid : Lists) (done : List ℕ) : Type 0 where
  pub free : IsBetween (priority_of old.free) (free_entry z) done mid.free
  pub partly_free : IsBetween (priority_of old.partly_free) (partly_free_entry z) done mid.partly_free

module _ (z : State) (old : Lists) where
  pub AreUpTo-start : AreUpTo z old old []
  AreUpTo-start = record {
    free = IsBetween-start (priority_of old.free) (free_entry z) old.free (λ t. refl);
    partly_free = IsBetween-start (priority_of old.partly_free) (partly_free_entry z) old.partly_free (λ t. refl);
  }

  pub AreUpTo-placed : (mid next : Lists) (done : List ℕ) (b : ℕ) → AreUpTo z old mid done → IsPlaced mid next b (free_entry z b) (partly_free_entry z b)
      → AreUpTo z old next (done ++ b ∷ [])
  AreUpTo-placed mid next done b are placed = record {
    free = IsBetween-changed (priority_of old.free) (free_entry z) done mid.free next.free b are.free placed.free;
    partly_free = IsBetween-changed (priority_of old.partly_free) (partly_free_entry z) done mid.partly_free next.partly_free b are.partly_free placed.partly_free;
  }

  -- a task that isn't done waits as before
  pub IsWaiting-still : (mid : Lists) (done : List ℕ) (b : ℕ) → AreUpTo z old mid done → holds done b ≡ false → IsWaiting z old b → IsWaiting z mid b
  IsWaiting-still mid done b are none waits = record {
    unexamined = waits.unexamined;
    some = waits.some;
    new = between-old (priority_of old.free) (free_entry z) done mid.free b are.free none ∙ waits.new;
    lower = rw (between-old (priority_of old.partly_free) (partly_free_entry z) done mid.partly_free b are.partly_free none) waits.lower;
    level = waits.level;
  }

-- no edge leads to a task of an earlier one
above-at : (edges : List Edge) (x i : ℕ) (d : Edge) → AllByRecursion (λ y. x < y) (senders edges) → i < length edges → x < (get_or edges i d).task.0
above-at [] x i d all inside = absurd (omega arith)
above-at (e ∷ edges) x zero d all inside = all.0
above-at (e ∷ edges) x (suc i) d all inside = above-at edges x i d all.1 (omega arith)

not-done : (edges : List Edge) (i : ℕ) (d : Edge) → Rises (senders edges) → i < length edges → holds (senders (take i edges)) (get_or edges i d).task.0 ≡ false
not-done [] i d up inside = absurd (omega arith)
not-done (e ∷ edges) zero d up inside = refl
not-done (e ∷ edges) (suc i) d up inside =
    let less = above-at edges e.task.0 i d up.0 (omega arith) in
    rw (nat_eq-apart (get_or edges i d).task.0 e.task.0 (λ same. omega (arith, less, same))) (not-done edges i d up.1 (omega arith))

module _ (z : State) (x : ℕ) (edges : List Edge) (are : AreSuccessors z.system x edges) where
  pub reader-not_done : (i : ℕ) (d : Edge) → i < length edges → holds (senders (take i edges)) (get_or edges i d).task.0 ≡ false
  reader-not_done i d inside = not-done edges i d (senders-rise edges are.rising) inside

  -- who isn't among the tasks of all edges doesn't read from x
  unread : (i : ℕ) → i ≡ length edges → (t : ℕ) → holds (senders (take i edges)) t ≡ false → has_edge z.system x t ≡ false
  unread i all t none = false_from_ne_true (has_edge z.system x t) (λ reads.
      let edge = has_edge-IsEdge z.system x t reads in
      let (k, e, inside, here, is) = are.complete t (edge_in z.system x t edge) edge in
      not-both (holds (senders edges) t) (rw (senders-all edges i all) at none) (sender-held edges t k e inside here is))

  pub AreLists-end : (old new : Lists) (i : ℕ) → i ≡ length edges → AreUpTo z old new (senders (take i edges))
      → ((t : ℕ) → has_edge z.system x t ≡ false → priority_of old.free t ≡ free_entry z t)
      → ((t : ℕ) → has_edge z.system x t ≡ false → priority_of old.partly_free t ≡ partly_free_entry z t) → AreLists z new
  AreLists-end old new i all up free partly_free = record {
    free = IsBetween-end (priority_of old.free) (free_entry z) (senders (take i edges)) new.free up.free
        (λ t none. sym (free t (unread i all t none)));
    partly_free = IsBetween-end (priority_of old.partly_free) (partly_free_entry z) (senders (take i edges)) new.partly_free up.partly_free
        (λ t none. sym (partly_free t (unread i all t none)));
  }

-- Once the head of the free tasks is examined and taken out, the lists may be brought up to date: those
-- that don't read from it have their places, and those that do wait for theirs.
module _ (z : State) (x : ℕ) (clusters : List (List ℕ)) (tlevels : List ℕ) (is_after : IsAfter z x clusters tlevels) (x_in : x < task_count z.system)
    (free : is_free z x ≡ true) (order : List ℕ) (top : IsTopological (task_count z.system) (IsEdge z.system) order) (bottom : AreBlevels z.system z.blevels)
    (are : AreTlevels z.system z.clusters z.tlevels) (closed : IsClosed z.system z.clusters) (are' : AreTlevels z.system clusters tlevels)
    (closed' : IsClosed z.system clusters) (old mid : Lists) (lists : AreLists z old) (taken : IsChanged old.free mid.free x None)
    (kept : (t : ℕ) → priority_of mid.partly_free t ≡ priority_of old.partly_free t)
  where
    abbrev after : State
    after = state z.system z.blevels clusters tlevels

    pub free-ready : (t : ℕ) → has_edge z.system x t ≡ false → priority_of mid.free t ≡ free_entry after t
    free-ready t other = elim (cases_eq t x) [
      | inl same ↦ taken t ∙ rw (nat_eq-same t x same, same) (sym (free_entry-gone z x clusters tlevels is_after))
      | inr apart ↦
          taken t ∙ rw (nat_eq-apart t x apart)
          (lists.free t ∙ sym (free_entry-same z x clusters tlevels is_after order top bottom are closed are' closed' t apart other))
    ]

    pub partly_free-ready : (t : ℕ) → has_edge z.system x t ≡ false → priority_of mid.partly_free t ≡ partly_free_entry after t
    partly_free-ready t other = kept t ∙ (lists.partly_free t ∙ elim (cases_eq t x) [
      | inl same ↦
          rw same
          (partly_free_entry-none z x clusters tlevels is_after x_in free ∙ sym (partly_free_entry-gone z x clusters tlevels is_after))
      | inr apart ↦ sym (partly_free_entry-same z x clusters tlevels is_after t apart other)
    ])

    pub waiting-ready : (t : ℕ) → IsEdge z.system x t → IsWaiting after mid t
    waiting-ready t edge =
        let t_in = edge_in z.system x t edge in
        let reads = IsEdge-has_edge z.system x t edge in
        let apart = reader-apart z x clusters tlevels is_after x_in free closed t t_in reads in
        record {
          unexamined = reader-still_new z x clusters tlevels is_after x_in free closed t t_in reads;
          some = reader-some z x clusters tlevels is_after x_in free closed t t_in reads;
          new =
              taken t ∙ rw (nat_eq-apart t x apart)
              (lists.free t ∙ free_entry-none z x clusters tlevels is_after x_in free closed t t_in reads);
          lower = rw (kept t, lists.partly_free t) (partly_free_entry-rises z x clusters tlevels is_after x_in free closed t t_in reads);
          level = λ now. free-arrival after order top bottom are' closed' t t_in now;
        }

-- the lists where no task is examined, with the free tasks below n
pub record AreBelow (z : State) (lists : Lists) (n : ℕ) : Type 0 where
  pub free : IsQueueOf (is_free z) (priority z) n lists.free
  pub partly_free : (t : ℕ) → priority_of lists.partly_free t ≡ None

module _ (z : State) (none : z.clusters ≡ []) where
  pub none-examined : (t : ℕ) → is_examined z t ≡ false
  none-examined t = rw none

  pub AreBelow-all : (lists : Lists) (n : ℕ) → n ≡ task_count z.system → AreBelow z lists n → AreLists z lists
  AreBelow-all lists n all are = record {
    free = rw all at are.free;
    partly_free = λ t. are.partly_free t ∙ sym (none-partly_free t);
  }
    where
      list_any-none : (xs : List ℕ) → list_any (is_examined z) xs ≡ false
      list_any-none [] = refl
      list_any-none (x ∷ xs) = rw (none-examined x, list_any-none xs)

      none-partly_free : (t : ℕ) → partly_free_entry z t ≡ None
      none-partly_free t = rw (none-examined t, list_any-none (predecessors z t), and-false (nat_lt t (task_count z.system)))
