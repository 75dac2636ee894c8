-- The tables of a graph as its edges, its writers and its order.
use Rattle.std.proofs.Common.{◌≡◌, ◌≢◌, ℕ, zero, suc, ◌+◌, ◌<◌, ◌≤◌, ◌⊎◌, inl, inr, Bool, true, List, [], ◌∷◌, ◌++◌, length, get_or, take, arith, refl, ap, sym, ◌∙◌, eqb-true, subst}
use Rattle.std.specs.Prelude.{nat_eq, Contains, All, Any, AllPairs, filter, sum_by, reverse}
use Rattle.std.specs.List.{list_any}
use Rattle.std.proofs.lemmas.Bool.{cases_Bool, cases_lt, cases_eq, false_from_ne_true, cond-true}
use Rattle.std.proofs.lemmas.List.{get_or_past, append-nil, take_all}
use Rattle.std.proofs.lemmas.List.Quantifiers.{Any-push, all_pairs_push}
use Rattle.std.proofs.lemmas.List.Elements.{All-head, All-tail, All-map, All-contains, All-push, All-nil}
use Rattle.pyr_graph.specs.declared.edge.Edge.{Edge}
use Rattle.pyr_graph.proofs.ListLemmas.{nat_eq-same, nat_eq-apart, Contains-tested, tested-Contains, Any-append_left}
use Rattle.pyr_graph.proofs.RowLemmas.{turned_from-more}
use Rattle.pyr_num.specs.declared.ids.TaskId.{TaskId}
use Rattle.pyr_num.specs.declared.ids.DatumId.{DatumId}
use Rattle.pyr_graph.specs.Tables.{edge_of, from_writer, writer_in, IsRow, turned, turned_from, times_in, Precedes, AreRows, AreOpposite}
use Rattle.std.proofs.lemmas.List.Sums.{length-filter}
use Rattle.pyr_seq.specs.Walk.{IsCycle, IsTopological, HasCycle}
use Rattle.pyr_seq.proofs.WalkLemmas.{no_cycle, IsCycle-reverse}
use Rattle.pyr_graph.specs.Removal.{IsLeft, IsSmallestFirst, IsFoundCycle}
use Rattle.pyr_graph.proofs.OrderLemmas.{times_in-cons, times_in-found}
use Rattle.pyr_graph.proofs.SmallestFirst.{IsSmallestFirst-same, IsRemoved-same, IsTopological-from_first}
use Rattle.pyr_graph.proofs.TrailLemmas.{IsFoundCycle-same, IsCycle-found}
use Rattle.pyr_graph.specs.System.{System, HoldsItsData, task_count, datum_count, task_at, reads_of, writes_of, comm_of, weight_of, IsWriter, IsEdge, AreSuccessors, ArePredecessors}

-- past the end a task reads nothing
reads_past : (s : System) (b : ℕ) → task_count s ≤ b → reads_of s b ≡ []
reads_past s b past = rw (get_or_past s.tasks b (record { cost = 0; reads = []; writes = [] }) past)

writes_past : (s : System) (a : ℕ) → task_count s ≤ a → writes_of s a ≡ []
writes_past s a past = rw (get_or_past s.tasks a (record { cost = 0; reads = []; writes = [] }) past)

-- an edge leads to a task
pub edge_in : (s : System) (a b : ℕ) → IsEdge s a b → b < task_count s
edge_in s a b (d, written, read) = elim (cases_lt b (task_count s)) [
  | inl inside ↦ inside
  | inr past ↦ absurd (let (k, k_in, at) = rw (reads_past s b past) at read in let none : k < 0 = k_in in omega (arith, none))
]

-- and from a task
pub edge_from : (s : System) (a b : ℕ) → IsEdge s a b → a < task_count s
edge_from s a b (d, written, read) = elim (cases_lt a (task_count s)) [
  | inl inside ↦ inside
  | inr past ↦ absurd (let (k, k_in, at) = rw (writes_past s a past) at written in let none : k < 0 = k_in in omega (arith, none))
]

-- a filter keeps an element exactly where some element passes
pub filter-found : (p : ℕ → Bool) (xs : List ℕ) → 0 < length (filter p xs) → (d : ℕ) × Contains xs d × (p d ≡ true)
filter-found p [] many = absurd (let none : 0 < 0 = many in omega (arith, none))
filter-found p (x ∷ xs) many = elim (cases_Bool (p x)) [
  | inl is ↦ (x, (zero, omega arith, refl), is)
  | inr is_not ↦ (
      let many' = rw is_not at many in
      let (d, (k, inside, at), is) = filter-found p xs many' in
      (d, (suc k, omega arith, at), is))
]

pub filter-some : (p : ℕ → Bool) (xs : List ℕ) (d : ℕ) → Contains xs d → p d ≡ true → 0 < length (filter p xs)
filter-some p [] d (k, inside, at) is = absurd (let none : k < 0 = inside in omega (arith, none))
filter-some p (x ∷ xs) d (zero, inside, at) is = let is' : p x ≡ true = rw at is in rw is' (omega arith)
filter-some p (x ∷ xs) d (suc k, inside, at) is =
    let rest = filter-some p xs d (k, omega arith, at) is in
    elim (cases_Bool (p x)) [ inl yes_ ↦ rw yes_ (omega arith) | inr not_ ↦ rw not_ rest ]

-- tests that agree on the elements keep the same ones
pub filter-same : (p q : ℕ → Bool) (xs : List ℕ) → ((d : ℕ) → Contains xs d → p d ≡ q d) → filter p xs ≡ filter q xs
filter-same p q [] same = refl
filter-same p q (x ∷ xs) same =
    let rest = filter-same p q xs (λ d (k, inside, at). same d (suc k, omega arith, at)) in
    let here = same x (zero, omega arith, refl) in
    rw (here, rest)

-- a row by rising task has at most one edge to a task
none_to : (row : List Edge) (t : ℕ) → All (λ e. e.task.0 ≢ t) row → filter (λ e. nat_eq e.task.0 t) row ≡ []
none_to [] t none = refl
none_to (e ∷ row) t none =
    rw (nat_eq-apart e.task.0 t (All-head (λ (e : Edge). e.task.0 ≢ t) e row none)) (none_to row t (All-tail (λ (e : Edge). e.task.0 ≢ t) e row none))

pub one_to : (row : List Edge) (t : ℕ) → AllPairs (λ e f. e.task.0 < f.task.0) row
    → ((filter (λ e. nat_eq e.task.0 t) row ≡ []) × (Any (λ e. e.task.0 ≡ t) row → ⊥))
    ⊎ ((e : Edge) × (filter (λ e. nat_eq e.task.0 t) row ≡ e ∷ []) × Contains row e × (e.task.0 ≡ t))
one_to [] t rising = inl (refl, λ (k, e, inside, at, to_t). let none : k < 0 = inside in omega (arith, none))
one_to (e ∷ row) t rising = elim (cases_eq e.task.0 t) [
  | inl same ↦ (
      let later : All (λ f. f.task.0 ≢ t) row = λ k d inside is. (let less = rising zero (suc k) d (omega arith) (omega arith) in omega (arith, less, is, same)) in
      inr (e, rw (nat_eq-same e.task.0 t same, none_to row t later), (zero, omega arith, refl), same))
  | inr apart ↦ elim (one_to row t (λ i j d less inside. rising (suc i) (suc j) d (omega arith) (omega arith))) [
    | inl (none, no_edge) ↦ inl (rw (nat_eq-apart e.task.0 t apart) none, no_edge_here e row t apart no_edge)
    | inr (f, one, (k, inside, at), same) ↦ inr (f, rw (nat_eq-apart e.task.0 t apart) one, (suc k, omega arith, at), same)
  ]
]
  where
    no_edge_here : (e : Edge) (row : List Edge) (t : ℕ) → e.task.0 ≢ t → (Any (λ e. e.task.0 ≡ t) row → ⊥) → Any (λ e. e.task.0 ≡ t) (e ∷ row) → ⊥
    no_edge_here e row t apart no_edge (zero, f, inside, at, to_t) = apart (ap (λ (e : Edge). e.task.0) at ∙ to_t)
    no_edge_here e row t apart no_edge (suc k, f, inside, at, to_t) = no_edge (k, f, omega arith, at, to_t)

-- a system with its table of writers
module _ (s : System) (holds : HoldsItsData s) (writers : List TaskId) (is_writer : (d : ℕ) → d < datum_count s → IsWriter s d (writer_in writers d))
    (only_writer : (d t : ℕ) → d < datum_count s → IsWriter s d t → t ≡ writer_in writers d) where
  read_in : (b d : ℕ) → Contains (reads_of s b) d → d < datum_count s
  read_in b d read = All-contains (λ d. d < datum_count s) (reads_of s b) d (All-map (λ n. n < datum_count s) (λ (d : DatumId). d.0) (task_at s b).reads (holds.reads b)) read

  -- the table and the lists of writes say the same of a datum that is read
  same_test : (a : ℕ) → a < task_count s → (d : ℕ) → d < datum_count s → nat_eq (writer_in writers d) a ≡ list_any (nat_eq d) (writes_of s a)
  same_test a a_in d d_in = elim (cases_eq (writer_in writers d) a) [
    | inl same ↦ (
        let held : Contains (writes_of s a) d = rw (← same) (is_writer d d_in).1 in
        nat_eq-same (writer_in writers d) a same ∙ sym (tested-Contains d (writes_of s a) held))
    | inr apart ↦ nat_eq-apart (writer_in writers d) a apart
        ∙ sym (false_from_ne_true (list_any (nat_eq d) (writes_of s a)) (λ found. apart (sym (only_writer d a d_in (a_in, Contains-tested d (writes_of s a) found)))))
  ]

  -- the rows of the reads are the successors
  pub AreSuccessors-from_row : (a : ℕ) (row : List Edge) → a < task_count s → IsRow (writer_in writers) (comm_of s) (reads_of s) (task_count s) a row → AreSuccessors s a row
  AreSuccessors-from_row a row a_in is = record {
    sound = λ k e inside.
        let (b_in, linked, weight) = is.sound k e inside in
        let b = (get_or row k e).task.0 in
        (b_in, edge b linked, weight ∙ ap (sum_by (comm_of s)) (same_data b));
    complete = λ b b_in (d, written, read). is.complete b b_in (
        let d_in = read_in b d read in
        filter-some (λ d. nat_eq (writer_in writers d) a) (reads_of s b) d read (nat_eq-same (writer_in writers d) a (sym (only_writer d a d_in (a_in, written)))));
    rising = is.rising;
  }
    where
      edge : (b : ℕ) → 0 < length (from_writer (writer_in writers) a (reads_of s b)) → IsEdge s a b
      edge b linked =
          let (d, read, from) = filter-found (λ d. nat_eq (writer_in writers d) a) (reads_of s b) linked in
          let d_in = read_in b d read in
          let Writes : ℕ → Type 0 = λ t. Contains (writes_of s t) d in
          (d, subst Writes (eqb-true (writer_in writers d) a from) (is_writer d d_in).1, read)

      same_data : (b : ℕ) → from_writer (writer_in writers) a (reads_of s b) ≡ filter (λ d. list_any (nat_eq d) (writes_of s a)) (reads_of s b)
      same_data b = filter-same (λ d. nat_eq (writer_in writers d) a) (λ d. list_any (nat_eq d) (writes_of s a)) (reads_of s b) (λ d read. same_test a a_in d (read_in b d read))

-- the rows of the successors, turned, are the predecessors
module _ (s : System) (forth : List (List Edge)) (full : length forth ≡ task_count s) (rows : (a : ℕ) → a < task_count s → AreSuccessors s a (get_or forth a [])) where
  -- the edges into t from tasks before the n-th
  record IsColumn (t n : ℕ) (column : List Edge) : Type 0 where
    sound : All (λ e. (e.task.0 < n) × IsEdge s e.task.0 t × (e.weight ≡ weight_of s e.task.0 t)) column
    complete : (a : ℕ) → a < n → IsEdge s a t → Any (λ e. e.task.0 ≡ a) column
    rising : AllPairs (λ e f. e.task.0 < f.task.0) column

  column-none : (t : ℕ) → IsColumn t 0 []
  column-none t = record {
    sound = λ k e inside. absurd (let none : k < 0 = inside in omega (arith, none));
    complete = λ a less edge. absurd (omega arith);
    rising = λ i j e less inside. absurd (let none : j < 0 = inside in omega (arith, none));
  }

  column-step : (t n : ℕ) (column : List Edge) → t < task_count s → n < task_count s → IsColumn t n column → IsColumn t (n + 1) (column ++ turned n (get_or forth n []) t)
  column-step t n column t_in n_in is = elim (one_to (get_or forth n []) t (rows n n_in).rising) [
    | inl (none, no_edge) ↦ rw (none, append-nil) (record {
      sound = λ k e inside. (let (a_in, edge, weight) = is.sound k e inside in (omega (arith, a_in), edge, weight));
      complete = λ a less edge. elim (cases_eq a n) [
        | inl same ↦ absurd (no_edge ((rows n n_in).complete t t_in (rw (← same) edge)))
        | inr apart ↦ is.complete a (omega (arith, less, apart)) edge
      ];
      rising = is.rising;
    })
    | inr (e, one, held, to_t) ↦ (
        let (b_in, edge, weight) = All-contains (λ e. (e.task.0 < task_count s) × IsEdge s n e.task.0 × (e.weight ≡ weight_of s n e.task.0)) (get_or forth n []) e (rows n n_in).sound held in
        let edge' : IsEdge s n t = rw (← to_t) edge in
        let weight' : e.weight ≡ weight_of s n t = rw (← to_t) weight in
        rw one (record {
          sound = All-push (λ e. (e.task.0 < n + 1) × IsEdge s e.task.0 t × (e.weight ≡ weight_of s e.task.0 t)) column (edge_of n e.weight)
              (λ k f inside. let (a_in, edge, weight) = is.sound k f inside in (omega (arith, a_in), edge, weight))
              (omega arith, edge', weight');
          complete = λ a less edge. elim (cases_eq a n) [
            | inl same ↦ Any-push (λ e. e.task.0 ≡ a) column (edge_of n e.weight) (sym same)
            | inr apart ↦ Any-append_left (λ e. e.task.0 ≡ a) column (edge_of n e.weight ∷ []) (is.complete a (omega (arith, less, apart)) edge)
          ];
          rising = all_pairs_push (λ e f. e.task.0 < f.task.0) column (edge_of n e.weight) is.rising (λ k f inside. (is.sound k f inside).0);
        }))
  ]

  columns : (t : ℕ) → t < task_count s → (n : ℕ) → n ≤ task_count s → IsColumn t n (turned_from 0 (take n forth) t)
  columns t t_in zero n_le = column-none t
  columns t t_in (suc n) n_le =
      let n_in : n < length forth = omega (arith, full) in
      let more = turned_from-more forth n t n_in in
      let same : n + 1 ≡ suc n = omega arith in
      let step = column-step t n (turned_from 0 (take n forth) t) t_in (omega arith) (columns t t_in n (omega arith)) in
      rw (← same, more) step

  pub ArePredecessors-turned : (t : ℕ) → t < task_count s → ArePredecessors s t (turned_from 0 forth t)
  ArePredecessors-turned t t_in =
      let is = rw (take_all (task_count s) forth (omega (arith, full))) at (columns t t_in (task_count s) (omega arith)) in
      record { sound = is.sound; complete = is.complete; rising = is.rising }

-- how often a task stands in a row by rising task: at most once
times_in-le_one : (row : List Edge) (t : ℕ) → AllPairs (λ e f. e.task.0 < f.task.0) row → times_in row t ≤ 1
times_in-le_one row t rising =
    let count = length-filter (λ e. nat_eq e.task.0 t) row in
    elim (one_to row t rising) [
      | inl (none, no_edge) ↦ omega (arith, count, ap (λ (xs : List Edge). length xs) none)
      | inr (e, one, held, to_t) ↦ omega (arith, count, ap (λ (xs : List Edge). length xs) one)
    ]

times_in-some : (row : List Edge) (t : ℕ) → Any (λ e. e.task.0 ≡ t) row → 0 < times_in row t
times_in-some [] t (k, e, inside, at, to_t) = absurd (let none : k < 0 = inside in omega (arith, none))
times_in-some (e ∷ row) t (zero, f, inside, at, to_t) =
    let same : e.task.0 ≡ t = ap (λ (e : Edge). e.task.0) at ∙ to_t in
    let one = cond-true {A = ℕ} (nat_eq e.task.0 t) 1 0 (nat_eq-same e.task.0 t same) in
    omega (arith, times_in-cons e row t, one)
times_in-some (e ∷ row) t (suc k, f, inside, at, to_t) =
    omega (arith, times_in-cons e row t, times_in-some row t (k, f, omega arith, at, to_t))

-- rows by rising task, of tasks below the count; past the end a row is empty
AreRows-from : (count : ℕ) (rows : List (List Edge)) → length rows ≡ count
    → ((t : ℕ) → t < count → All (λ e. e.task.0 < count) (get_or rows t []))
    → ((t : ℕ) → t < count → AllPairs (λ e f. e.task.0 < f.task.0) (get_or rows t []))
    → AreRows count rows
AreRows-from count rows full tasks rising = record {
  full = full;
  tasks = λ t. elim (cases_lt t count) [
    | inl t_in ↦ tasks t t_in
    | inr past ↦ (let empty = get_or_past rows t [] (omega (arith, past, full)) in rw empty (All-nil (λ (e : Edge). e.task.0 < count)))
  ];
  rising = λ t. elim (cases_lt t count) [
    | inl t_in ↦ rising t t_in
    | inr past ↦ (let empty = get_or_past rows t [] (omega (arith, past, full)) in rw empty (λ i j d less inside. absurd (let none : j < 0 = inside in omega (arith, none))))
  ];
}

pub AreRows-successors : (s : System) (forth : List (List Edge)) → length forth ≡ task_count s → ((a : ℕ) → a < task_count s → AreSuccessors s a (get_or forth a [])) → AreRows (task_count s) forth
AreRows-successors s forth full rows = AreRows-from (task_count s) forth full (λ t t_in k e inside. ((rows t t_in).sound k e inside).0) (λ t t_in. (rows t t_in).rising)

pub AreRows-predecessors : (s : System) (back : List (List Edge)) → length back ≡ task_count s → ((b : ℕ) → b < task_count s → ArePredecessors s b (get_or back b [])) → AreRows (task_count s) back
AreRows-predecessors s back full rows = AreRows-from (task_count s) back full (λ t t_in k e inside. ((rows t t_in).sound k e inside).0) (λ t t_in. (rows t t_in).rising)

-- a system with the rows of its edges, both ways
module _ (s : System) (forth back : List (List Edge)) (forth_full : length forth ≡ task_count s) (back_full : length back ≡ task_count s)
    (successors : (a : ℕ) → a < task_count s → AreSuccessors s a (get_or forth a []))
    (predecessors : (b : ℕ) → b < task_count s → ArePredecessors s b (get_or back b [])) where
  -- a task stands in a row exactly where there is an edge
  pub edge_from_row : (a b : ℕ) → Precedes back a b → IsEdge s a b
  edge_from_row a b (k, e, inside, at, to_a) = elim (cases_lt b (task_count s)) [
    | inl b_in ↦ (
        let edge = ((predecessors b b_in).sound k e inside).1 in
        let same : (get_or (get_or back b []) k e).task.0 ≡ a = ap (λ (e : Edge). e.task.0) at ∙ to_a in
        let Leads : ℕ → Type 0 = λ t. IsEdge s t b in
        subst Leads same edge)
    | inr past ↦ absurd (let empty = get_or_past back b [] (omega (arith, past, back_full)) in let inside' = rw empty at inside in let none : k < 0 = inside' in omega (arith, none))
  ]

  pub row_from_edge : (a b : ℕ) → IsEdge s a b → Precedes back a b
  row_from_edge a b edge = (predecessors b (edge_in s a b edge)).complete a (edge_from s a b edge) edge

  edge_from_forth : (a b : ℕ) → Precedes forth b a → IsEdge s a b
  edge_from_forth a b (k, e, inside, at, to_b) = elim (cases_lt a (task_count s)) [
    | inl a_in ↦ (
        let edge = ((successors a a_in).sound k e inside).1 in
        let same : (get_or (get_or forth a []) k e).task.0 ≡ b = ap (λ (e : Edge). e.task.0) at ∙ to_b in
        let Leads : ℕ → Type 0 = λ t. IsEdge s a t in
        subst Leads same edge)
    | inr past ↦ absurd (let empty = get_or_past forth a [] (omega (arith, past, forth_full)) in let inside' = rw empty at inside in let none : k < 0 = inside' in omega (arith, none))
  ]

  -- so the rows are the same edges, seen from both ends
  pub AreOpposite-edges : AreOpposite forth back
  AreOpposite-edges a b =
      let forth_le = times_in-le_one (get_or forth a []) b ((AreRows-successors s forth forth_full successors).rising a) in
      let back_le = times_in-le_one (get_or back b []) a ((AreRows-predecessors s back back_full predecessors).rising b) in
      elim (cases_lt 0 (times_in (get_or forth a []) b)) [
        | inl many ↦ (
            let edge = edge_from_forth a b (times_in-found (get_or forth a []) b many) in
            let there = times_in-some (get_or back b []) a (row_from_edge a b edge) in
            omega (arith, forth_le, back_le, many, there))
        | inr none ↦ elim (cases_lt 0 (times_in (get_or back b []) a)) [
          | inr none_back ↦ omega (arith, none, none_back)
          | inl many ↦ absurd (
              let edge = edge_from_row a b (times_in-found (get_or back b []) a many) in
              let there = times_in-some (get_or forth a []) b ((successors a (edge_from s a b edge)).complete b (edge_in s a b edge) edge) in
              omega (arith, none, there))
        ]
      ]

  -- the order of the rows is that of the edges
  pub first_by_edges : (order : List ℕ) → IsSmallestFirst (task_count s) (Precedes back) order → IsSmallestFirst (task_count s) (IsEdge s) order
  first_by_edges order first = IsSmallestFirst-same (task_count s) (Precedes back) (IsEdge s) edge_from_row row_from_edge order first

  pub topological_by_edges : (order : List ℕ) → length order ≡ task_count s → IsSmallestFirst (task_count s) (Precedes back) order → IsTopological (task_count s) (IsEdge s) order
  topological_by_edges order full first = IsTopological-from_first (task_count s) (IsEdge s) order (first_by_edges order first) full

  pub acyclic_by_order : (order : List ℕ) → length order ≡ task_count s → IsSmallestFirst (task_count s) (Precedes back) order → HasCycle (IsEdge s) → ⊥
  acyclic_by_order order full first = no_cycle (task_count s) (IsEdge s) order (topological_by_edges order full first) (edge_in s)

  -- and so is the cycle
  pub cycle_by_edges : (tasks : List ℕ) → IsFoundCycle (IsLeft (task_count s) (Precedes back)) (Precedes back) tasks
      → IsFoundCycle (IsLeft (task_count s) (IsEdge s)) (IsEdge s) tasks × IsCycle (IsEdge s) (reverse tasks)
  cycle_by_edges tasks found =
      let found' = IsFoundCycle-same (IsLeft (task_count s) (Precedes back)) (IsLeft (task_count s) (IsEdge s)) (Precedes back) (IsEdge s)
      (λ t left. (left.0, λ removed. left.1 (IsRemoved-same (IsEdge s) (Precedes back) edge_from_row t removed)))
      (λ t left. (left.0, λ removed. left.1 (IsRemoved-same (Precedes back) (IsEdge s) row_from_edge t removed)))
      edge_from_row row_from_edge tasks found in
      (found', IsCycle-reverse (IsEdge s) tasks (IsCycle-found (IsLeft (task_count s) (IsEdge s)) (IsEdge s) tasks found'))
