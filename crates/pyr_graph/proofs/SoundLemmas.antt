-- What holds where no limit is passed and no datum stands twice in a list.
use Rattle.std.proofs.Common.{◌≡◌, ◌≢◌, ℕ, zero, suc, ◌*◌, ◌<◌, ◌≤◌, inl, inr, Bool, true, false, List, [], ◌∷◌, ◌++◌, length, get_or, arith, refl, ap, sym, ◌∙◌, Option, Some, None, eq-eqb}
use Rattle.std.specs.Prelude.{nat_eq, nat_lt, All, AllPairs, Contains, filter, find, sum_by}
use Rattle.std.specs.List.{list_any, flat_map}
use Rattle.std.specs.Option.{option_or}
use Rattle.std.proofs.Math.Nat.{mul-le-mul_right}
use Rattle.std.proofs.lemmas.Bool.{cases_Bool, cases_lt, ltb-false, or_parts}
use Rattle.std.proofs.lemmas.List.{get_or_past, length-map}
use Rattle.std.proofs.lemmas.List.Elements.{All-nil, All-cons, All-weaker}
use Rattle.std.proofs.lemmas.List.Folds.{list_any_at}
use Rattle.std.proofs.lemmas.List.Sums.{sum_by-le, length-filter, count_by-le-length}
use Rattle.pyr_num.specs.declared.ids.DatumId.{DatumId}
use Rattle.pyr_num.specs.declared.limits.Quantity.{Quantity}
use Rattle.pyr_num.specs.declared.limits.Quantity.TheVariants.{Tasks, Datums, Length, Comm, Cost, Reads, AllReads, Writes, Prints}
use Rattle.pyr_num.specs.declared.limits.TheConstants.Limits.{TASKS, DATUMS, LEAST_LENGTH, LENGTH, COMM, LEAST_COST, COST, READS, ALL_READS, WRITES, PRINTS}
use Rattle.pyr_graph.specs.declared.parts.TaskParts.{TaskParts}
use Rattle.pyr_graph.specs.declared.parts.DatumParts.{DatumParts}
use Rattle.pyr_graph.specs.System.{System, system_of, HoldsItsData, task_in, task_count, datum_count, datum_numbers, reads_of, writes_of, comm_of, weight_of}
use Rattle.pyr_graph.specs.Bounds.{is_outside, passes, rows, first_passed, IsWithinLimits}
use Rattle.pyr_graph.specs.Faults.{first_repeated, first_repeated_of, lists_of, first_duplicate}

-- no element passes where none is found
find-none : {X : Type 0} (p : X → Bool) (xs : List X) → find p xs ≡ None → (x : X) → Contains xs x → p x ≡ false
find-none p [] none x (k, inside, at) = absurd (let no_place : k < 0 = inside in omega (arith, no_place))
find-none p (y ∷ xs) none x (zero, inside, at) = elim (cases_Bool (p y)) [
  | inl is ↦ absurd (let none' = rw is at none in cc)
  | inr is_not ↦ rw (← at) is_not
]
find-none p (y ∷ xs) none x (suc k, inside, at) = elim (cases_Bool (p y)) [
  | inl is ↦ absurd (let none' = rw is at none in cc)
  | inr is_not ↦ find-none p xs (rw is_not at none) x (k, omega arith, at)
]

none_any : {X : Type 0} (p : X → Bool) (xs : List X) → list_any p xs ≡ false → All (λ x. p x ≡ false) xs
none_any p [] none = All-nil (λ x. p x ≡ false)
none_any p (x ∷ xs) none = let (here, rest) = or_parts (p x) (list_any p xs) none in All-cons (λ x. p x ≡ false) x xs here (none_any p xs rest)

inside_range : (least most n : ℕ) → is_outside least most n ≡ false → (least ≤ n) × (n ≤ most)
inside_range least most n none = let (low, high) = or_parts (nat_lt n least) (nat_lt most n) none in (ltb-false n least low, ltb-false most n high)

-- what holds of every task of the list, and of one that reads and writes nothing, holds of each number
pub tasks_at : (tasks : List TaskParts) (P : TaskParts → Type 0) → P (record { cost = 0; reads = []; writes = [] }) → All P tasks → (t : ℕ) → P (task_in tasks t)
tasks_at tasks P empty all t = elim (cases_lt t (length tasks)) [
  | inl inside ↦ all t (record { cost = 0; reads = []; writes = [] }) inside
  | inr past ↦ rw (get_or_past tasks t (record { cost = 0; reads = []; writes = [] }) past) empty
]

-- so every datum is one of the system where those of each list are
pub HoldsItsData-from_lists : (tasks : List TaskParts) (datums : List DatumParts) (prints : List DatumId)
    → All (λ t. All (λ d. d.0 < length datums) t.reads × All (λ d. d.0 < length datums) t.writes) tasks → All (λ d. d.0 < length datums) prints
    → HoldsItsData (system_of tasks datums prints)
HoldsItsData-from_lists tasks datums prints all printed = record {
  reads = tasks_at tasks (λ t. All (λ d. d.0 < length datums) t.reads) (All-nil (λ (d : DatumId). d.0 < length datums))
      (All-weaker (λ t. All (λ d. d.0 < length datums) t.reads × All (λ d. d.0 < length datums) t.writes) (λ t. All (λ d. d.0 < length datums) t.reads) (λ t both. both.0) tasks all);
  writes = tasks_at tasks (λ t. All (λ d. d.0 < length datums) t.writes) (All-nil (λ (d : DatumId). d.0 < length datums))
      (All-weaker (λ t. All (λ d. d.0 < length datums) t.reads × All (λ d. d.0 < length datums) t.writes) (λ t. All (λ d. d.0 < length datums) t.writes) (λ t both. both.1) tasks all);
  prints = printed;
}

-- every number is within its limits where none is passed
module _ (s : System) (none : first_passed s ≡ None) where
  not_passed : (q : Quantity) → Contains rows q → passes s q ≡ false
  not_passed q held = find-none (passes s) rows none q held

  comm_le : (d : ℕ) → comm_of s d ≤ COMM
  comm_le d = elim (cases_lt d (datum_count s)) [
    | inl inside ↦ ltb-false COMM (comm_of s d) (none_any (λ (d : DatumParts). nat_lt COMM d.comm) s.datums (not_passed Comm (3, omega arith, refl)) d (record { length = 0; comm = 0 }) inside)
    | inr past ↦ rw (get_or_past s.datums d (record { length = 0; comm = 0 }) past, comm_of) (omega arith)
  ]

  reads_le : (t : ℕ) → length (reads_of s t) ≤ READS
  reads_le t =
      let most = tasks_at s.tasks (λ t. length t.reads ≤ READS) (omega arith)
      (All-weaker (λ t. nat_lt READS (length t.reads) ≡ false) (λ t. length t.reads ≤ READS) (λ t few. ltb-false READS (length t.reads) few) s.tasks
      (none_any (λ (t : TaskParts). nat_lt READS (length t.reads)) s.tasks (not_passed Reads (5, omega arith, refl)))) t in
      rw length-map most

  writes_le : (t : ℕ) → length (writes_of s t) ≤ WRITES
  writes_le t =
      let most = tasks_at s.tasks (λ t. length t.writes ≤ WRITES) (omega arith)
      (All-weaker (λ t. nat_lt WRITES (length t.writes) ≡ false) (λ t. length t.writes ≤ WRITES) (λ t few. ltb-false WRITES (length t.writes) few) s.tasks
      (none_any (λ (t : TaskParts). nat_lt WRITES (length t.writes)) s.tasks (not_passed Writes (7, omega arith, refl)))) t in
      rw length-map most

  costs_within : All (λ t. (LEAST_COST ≤ t.cost) × (t.cost ≤ COST)) s.tasks
  costs_within = All-weaker (λ t. is_outside LEAST_COST COST t.cost ≡ false) (λ t. (LEAST_COST ≤ t.cost) × (t.cost ≤ COST)) (λ t few. inside_range LEAST_COST COST t.cost few) s.tasks
      (none_any (λ (t : TaskParts). is_outside LEAST_COST COST t.cost) s.tasks (not_passed Cost (4, omega arith, refl)))

  weight_le : (a b : ℕ) → weight_of s a b ≤ READS * COMM
  weight_le a b =
      let data_read = filter (λ d. list_any (nat_eq d) (writes_of s a)) (reads_of s b) in
      let sum_le = sum_by-le (comm_of s) COMM data_read (λ k d inside. comm_le (get_or data_read k d)) in
      let few : length data_read ≤ READS = omega (arith, length-filter (λ d. list_any (nat_eq d) (writes_of s a)) (reads_of s b), count_by-le-length (λ d. list_any (nat_eq d) (writes_of s a)) (reads_of s b), reads_le b) in
      let product = mul-le-mul_right COMM few in
      grind arith

  pub IsWithinLimits-none : IsWithinLimits s
  IsWithinLimits-none = record {
    tasks = ltb-false TASKS (task_count s) (not_passed Tasks (0, omega arith, refl));
    datums = ltb-false DATUMS (datum_count s) (not_passed Datums (1, omega arith, refl));
    lengths = All-weaker (λ d. is_outside LEAST_LENGTH LENGTH d.length ≡ false) (λ d. (LEAST_LENGTH ≤ d.length) × (d.length ≤ LENGTH)) (λ d few. inside_range LEAST_LENGTH LENGTH d.length few) s.datums
        (none_any (λ (d : DatumParts). is_outside LEAST_LENGTH LENGTH d.length) s.datums (not_passed Length (2, omega arith, refl)));
    comms = comm_le;
    least_costs = All-weaker (λ t. (LEAST_COST ≤ t.cost) × (t.cost ≤ COST)) (λ t. LEAST_COST ≤ t.cost) (λ t both. both.0) s.tasks costs_within;
    costs = tasks_at s.tasks (λ t. t.cost ≤ COST) (omega arith) (All-weaker (λ t. (LEAST_COST ≤ t.cost) × (t.cost ≤ COST)) (λ t. t.cost ≤ COST) (λ t both. both.1) s.tasks costs_within);
    reads = reads_le;
    all_reads = ltb-false ALL_READS (sum_by (λ t. length t.reads) s.tasks) (not_passed AllReads (6, omega arith, refl));
    writes = writes_le;
    prints = ltb-false PRINTS (length s.prints) (not_passed Prints (8, omega arith, refl));
    weights = weight_le;
  }

-- a list without a datum that stands twice
option_or-none : (a b : Option ℕ) → option_or a b ≡ None → (a ≡ None) × (b ≡ None)
option_or-none None b none = (refl, none)
option_or-none (Some x) b none = absurd (let both : Some x ≡ None = none in cc)

distinct : (list : List ℕ) → first_repeated list ≡ None → AllPairs (λ d e. d ≢ e) list
distinct [] none = λ i j d less inside. absurd (let no_place : j < 0 = inside in omega (arith, no_place))
distinct (x ∷ list) none = elim (cases_Bool (list_any (nat_eq x) list)) [
  | inl again ↦ absurd (let none' = rw again at none in cc)
  | inr new ↦ pairs new (distinct list (rw new at none))
]
  where
    pairs : list_any (nat_eq x) list ≡ false → AllPairs (λ d e. d ≢ e) list → AllPairs (λ d e. d ≢ e) (x ∷ list)
    pairs new rest i zero d less inside same = absurd (omega arith)
    pairs new rest zero (suc j) d less inside same =
        let found = list_any_at (nat_eq x) list j d (omega arith) (eq-eqb x (get_or list j d) same) in
        let both : true ≡ false = sym found ∙ new in absurd (cc)
    pairs new rest (suc i) (suc j) d less inside same = rest i j d (omega arith) (omega arith) same

first_repeated_of-append : (xs ys : List (List ℕ)) → first_repeated_of (xs ++ ys) ≡ option_or (first_repeated_of xs) (first_repeated_of ys)
first_repeated_of-append [] ys = refl
first_repeated_of-append (x ∷ xs) ys = ap (option_or (first_repeated x)) (first_repeated_of-append xs ys) ∙ sym (or_assoc (first_repeated x) (first_repeated_of xs) (first_repeated_of ys))
  where
    or_assoc : (a b c : Option ℕ) → option_or (option_or a b) c ≡ option_or a (option_or b c)
    or_assoc None b c = refl
    or_assoc (Some x) b c = refl

none_in_tasks : (tasks : List TaskParts) → first_repeated_of (flat_map lists_of tasks) ≡ None → All (λ t. (first_repeated (datum_numbers t.reads) ≡ None) × (first_repeated (datum_numbers t.writes) ≡ None)) tasks
none_in_tasks [] none = All-nil (λ (t : TaskParts). (first_repeated (datum_numbers t.reads) ≡ None) × (first_repeated (datum_numbers t.writes) ≡ None))
none_in_tasks (t ∷ tasks) none =
    let (reads, rest) = option_or-none (first_repeated (datum_numbers t.reads)) (option_or (first_repeated (datum_numbers t.writes)) (first_repeated_of (flat_map lists_of tasks))) none in
    let (writes, more) = option_or-none (first_repeated (datum_numbers t.writes)) (first_repeated_of (flat_map lists_of tasks)) rest in
    All-cons (λ t. (first_repeated (datum_numbers t.reads) ≡ None) × (first_repeated (datum_numbers t.writes) ≡ None)) t tasks (reads, writes) (none_in_tasks tasks more)

module _ (s : System) (none : first_duplicate s ≡ None) where
  parts : (first_repeated_of (flat_map lists_of s.tasks) ≡ None) × (first_repeated_of (datum_numbers s.prints ∷ []) ≡ None)
  parts = option_or-none (first_repeated_of (flat_map lists_of s.tasks)) (first_repeated_of (datum_numbers s.prints ∷ [])) (sym (first_repeated_of-append (flat_map lists_of s.tasks) (datum_numbers s.prints ∷ [])) ∙ none)

  lists_at : (t : ℕ) → (first_repeated (reads_of s t) ≡ None) × (first_repeated (writes_of s t) ≡ None)
  lists_at t = elim (cases_lt t (task_count s)) [
    | inl inside ↦ none_in_tasks s.tasks parts.0 t (record { cost = 0; reads = []; writes = [] }) inside
    | inr past ↦ rw (get_or_past s.tasks t (record { cost = 0; reads = []; writes = [] }) past) (refl, refl)
  ]

  pub reads_distinct : (t : ℕ) → AllPairs (λ d e. d ≢ e) (reads_of s t)
  reads_distinct t = distinct (reads_of s t) (lists_at t).0

  pub writes_distinct : (t : ℕ) → AllPairs (λ d e. d ≢ e) (writes_of s t)
  writes_distinct t = distinct (writes_of s t) (lists_at t).1

  pub prints_distinct : AllPairs (λ d e. d ≢ e) (datum_numbers s.prints)
  prints_distinct = distinct (datum_numbers s.prints) (option_or-none (first_repeated (datum_numbers s.prints)) None parts.1).0
