-- The test for an edge, and that the tasks of the edges into a task are the filter of all tasks that
-- it reads from.
use Rattle.std.proofs.Common.{◌≡◌, ℕ, zero, suc, ◌+◌, ◌<◌, Bool, true, false, List, [], ◌∷◌, ◌++◌, inl, inr, refl, arith, ap, sym, ◌∙◌, eqb-true, length, get_or, take}
use Rattle.std.specs.Prelude.{nat_eq, filter, AllPairs}
use Rattle.std.specs.List.{list_any, AllByRecursion}
use Rattle.std.proofs.lemmas.Bool.{cases_Bool, or_right}
use Rattle.std.proofs.lemmas.List.{take_more, map_push}
use Rattle.std.proofs.Math.Seq.{take-length}
use Rattle.pyr_graph.specs.declared.edge.Edge.{Edge}
use Rattle.pyr_graph.specs.Numbers.{holds, numbers}
use Rattle.pyr_graph.specs.System.{System, task_count, reads_of, writes_of, IsEdge, ArePredecessors}
use Rattle.pyr_graph.specs.Edges.{has_edge, senders}
use Rattle.pyr_graph.proofs.ListLemmas.{Contains-tested, tested-Contains, nat_eq-same}
use Rattle.pyr_graph.proofs.NumberLemmas.{tests_agree, some-passes, passes-some, Rises, same-from_rising, kept-rises, kept-number, number-kept}

-- the test for an edge
pub has_edge-IsEdge : (s : System) (a b : ℕ) → has_edge s a b ≡ true → IsEdge s a b
has_edge-IsEdge s a b is =
    let (d, read, written) = some-passes (λ d. list_any (nat_eq d) (writes_of s a)) (reads_of s b) is in
    (d, Contains-tested d (writes_of s a) written, Contains-tested d (reads_of s b) read)

pub IsEdge-has_edge : (s : System) (a b : ℕ) → IsEdge s a b → has_edge s a b ≡ true
IsEdge-has_edge s a b (d, written, read) =
    passes-some (λ d. list_any (nat_eq d) (writes_of s a)) (reads_of s b) d (tested-Contains d (reads_of s b) read) (tested-Contains d (writes_of s a) written)

-- the tasks of a list of edges
pub sender-held : (edges : List Edge) (m k : ℕ) (e : Edge) → k < length edges → get_or edges k e ≡ e → e.task.0 ≡ m → holds (senders edges) m ≡ true
sender-held [] m k e inside here is = absurd (omega arith)
sender-held (f ∷ edges) m zero e inside here is =
    let same : m ≡ f.task.0 = sym (ap (λ (g : Edge). g.task.0) here ∙ is) in
    rw (nat_eq-same m f.task.0 same)
sender-held (f ∷ edges) m (suc k) e inside here is = rw (sender-held edges m k e (omega arith) here is) (or_right (nat_eq m f.task.0) true refl)

held-sender : (edges : List Edge) (m : ℕ) → holds (senders edges) m ≡ true
    → (k : ℕ) × (k < length edges) × ((d : Edge) → (get_or edges k d).task.0 ≡ m)
held-sender [] m held = absurd (let e : false ≡ true = held in cc)
held-sender (f ∷ edges) m held = elim (cases_Bool (nat_eq m f.task.0)) [
  | inl is ↦ (0, omega arith, λ d. sym (eqb-true m f.task.0 is))
  | inr other ↦
      let (k, inside, here) = held-sender edges m (rw other at held) in
      (suc k, omega (arith, inside), here)
]

senders-above : (edges : List Edge) (n : ℕ) → ((k : ℕ) (d : Edge) → k < length edges → n < (get_or edges k d).task.0) → AllByRecursion (λ y. n < y) (senders edges)
senders-above [] n above = tt
senders-above (f ∷ edges) n above = (above 0 f (omega arith), senders-above edges n (λ k d inside. above (suc k) d (omega (arith, inside))))

pub senders-rise : (edges : List Edge) → AllPairs (λ e f. e.task.0 < f.task.0) edges → Rises (senders edges)
senders-rise [] up = tt
senders-rise (f ∷ edges) up = (
  senders-above edges f.task.0 (λ k d inside. up 0 (suc k) d (omega arith) (omega (arith, inside))),
  senders-rise edges (λ i j d less inside. up (suc i) (suc j) d (omega (arith, less)) (omega (arith, inside))),
)

-- the tasks of the edges into t are its predecessors, in the same order
pub senders-predecessors : (s : System) (t : ℕ) (edges : List Edge) → ArePredecessors s t edges
    → senders edges ≡ filter (λ a. has_edge s a t) (numbers (task_count s))
senders-predecessors s t edges are =
    same-from_rising (senders edges) (filter (λ a. has_edge s a t) (numbers (task_count s))) (senders-rise edges are.rising)
    (kept-rises (λ a. has_edge s a t) (task_count s))
    (λ n. tests_agree (holds (senders edges) n) (holds (filter (λ a. has_edge s a t) (numbers (task_count s))) n)
    (λ held.
    let (k, inside, here) = held-sender edges n held in
    let known = are.sound k none inside in
    let task : n < task_count s = rw (here none) at known.0 in
    let edge : IsEdge s n t = rw (here none) at known.1 in
    number-kept (λ a. has_edge s a t) (task_count s) n task (IsEdge-has_edge s n t edge))
    (λ held.
    let (task, edge) = kept-number (λ a. has_edge s a t) (task_count s) n held in
    let (k, e, inside, here, is) = are.complete n task (has_edge-IsEdge s n t edge) in
    sender-held edges n k e inside here is))
  where
    none : Edge
    none = record { task = record { 0 = 0 }; weight = 0 }

-- one edge more
pub senders-more : (edges : List Edge) (i : ℕ) (d : Edge) → i < length edges
    → senders (take (i + 1) edges) ≡ senders (take i edges) ++ (get_or edges i d).task.0 ∷ []
senders-more edges i d inside =
    ap senders (take_more edges i d inside) ∙ map_push (λ (e : Edge). e.task.0) (take i edges) (get_or edges i d)

pub senders-all : (edges : List Edge) (i : ℕ) → i ≡ length edges → senders (take i edges) ≡ senders edges
senders-all edges i all = rw (all, take-length edges)

-- the edges up to the end are those of all predecessors
pub senders-whole : (s : System) (t : ℕ) (edges : List Edge) (i : ℕ) → ArePredecessors s t edges → i ≡ length edges
    → senders (take i edges) ≡ filter (λ a. has_edge s a t) (numbers (task_count s))
senders-whole s t edges i are all = senders-all edges i all ∙ senders-predecessors s t edges are
