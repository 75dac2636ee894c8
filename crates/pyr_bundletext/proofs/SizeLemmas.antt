-- The text of every bundle is within the limit of an input. A line has its word, a space and digits
-- for each number, and a line feed: at most 52 bytes for an op, with the `done` of a loop, 42 for a
-- datum, 13 for an instruction. Ops are most of the text, with 13,631,488 bytes at the most.
use Rattle.std.proofs.Common.{◌≡◌, ℕ, zero, suc, ◌+◌, ◌*◌, ◌<◌, ◌≤◌, ◌&&◌, ◌||◌, Bool, true, false, cond, List, [], ◌∷◌, ◌++◌, length, take, get_or, All, count_by, sum_by, IsTrue, sym, ap, subst, arith}
use Rattle.std.specs.Prelude.{◌==◌, codes, decimal, nat_eq, nat_lt, not}
use Rattle.std.specs.List.{flat_map, list_any, AllByRecursion}
use Rattle.std.proofs.lemmas.Fmt.{length-decimal-le}
use Rattle.std.proofs.lemmas.Bool.{and_parts, eqb-true, le-ltb, lt-ltb, ltb-true}
use Rattle.std.proofs.lemmas.Bool.Decides.{nat_tests}
use Rattle.std.proofs.lemmas.List.{length-append, take_all}
use Rattle.std.proofs.lemmas.List.Concat.{length-flat_map}
use Rattle.std.proofs.lemmas.List.Elements.{All-from_get_or, All-from_recursion, All-head, All-tail, All-weaker}
use Rattle.std.proofs.lemmas.List.Folds.{list_any_more}
use Rattle.std.proofs.lemmas.List.Sums.{sum_by-cons, sum_by-le, sum_by_more}
use Rattle.std.proofs.lemmas.Option.{slice_get-get_or}
use Rattle.pyr_num.specs.Name.{is_name}
use Rattle.pyr_num.specs.declared.arithmetic.Bin.{Bin as Operator}
use Rattle.pyr_num.specs.declared.arithmetic.Bin.TheVariants as operators
use Rattle.pyr_num.specs.declared.limits.TheConstants.Limits.{INPUT, PROCESSORS, DATUMS, LEAST_LENGTH, LENGTH, LOCALS}
use Rattle.pyr_code.specs.Tree.{Op, Push, Load, Store, Frame, Get, Put, Bin, Sel, Loop, Code, End, Then}
use Rattle.pyr_code.specs.Size.{op_nodes, code_nodes}
use Rattle.pyr_bundle.specs.declared.raw_bundle.RawBundle.{RawBundle}
use Rattle.pyr_bundle.specs.declared.raw_datum.RawDatum.{RawDatum}
use Rattle.pyr_bundle.specs.declared.raw_task.RawTask.{RawTask}
use Rattle.pyr_bundle.specs.declared.raw_channel.RawChannel.{RawChannel}
use Rattle.pyr_bundle.specs.declared.raw_instr.RawInstr.{RawInstr}
use Rattle.pyr_bundle.specs.declared.raw_instr.RawInstr.TheVariants.{Recv, Exec, Send}
use Rattle.pyr_bundle.specs.Law.{IsKept}
use Rattle.pyr_bundle.specs.Laws.{fresh, is_written_by, fits, writers}
use Rattle.pyr_bundle.specs.Faults.{IsLawful}
use Rattle.pyr_bundle.specs.Raw.{IsWithinLimits, datum_count, task_count, processor_count, code_in, tree_of}
use Rattle.pyr_bundle.specs.Parts.{Parts, IsBundle, raw_of}
use Rattle.pyr_bundle.proofs.Stamps.{fresh_at}
use Rattle.pyr_bundle.proofs.AccessLemmas.{reads_fresh, writes_fresh}
use Rattle.pyr_bundle.proofs.CountLemmas.{fits_at_place}
use Rattle.pyr_bundletext.specs.Text.{spaced, line, operator_word, op_text, code_text, datum_text, task_text, print_text, channel_text, instr_text, processors_text, text_of}
use Rattle.pyr_bundletext.specs.Spelled.{IsWord, IsSpelledOp, IsSpelledCode, IsSpelledTask, IsSpelledChannel, IsSpelled}

-- numbers

two_digits : (n : ℕ) → n < 100 → length (decimal n) ≤ 2
two_digits n h = length-decimal-le 2 n (omega arith) h (omega (arith, h))

four_digits : (n : ℕ) → n < 10000 → length (decimal n) ≤ 4
four_digits n h = length-decimal-le 4 n (omega arith) h (omega (arith, h))

word_digits : (n : ℕ) → IsWord n → length (decimal n) ≤ 20
word_digits n h = length-decimal-le 20 n (omega arith) (omega (arith, h)) h

-- lines, by their word and their count of numbers

length-line : (word numbers : List ℕ) → length (line word numbers) ≡ length word + sum_by (λ n. length (spaced n)) numbers + 1
length-line word numbers =
    omega (arith, length-append (word ++ flat_map spaced numbers) (10 ∷ []), length-append word (flat_map spaced numbers), length-flat_map spaced numbers)

with_one : (word : List ℕ) (m a : ℕ) → length (decimal m) ≤ a → length (line word (m ∷ [])) ≤ length word + a + 2
with_one word m a h = omega (arith, length-line word (m ∷ []), h)

with_two : (word : List ℕ) (m n a b : ℕ) → length (decimal m) ≤ a → length (decimal n) ≤ b → length (line word (m ∷ n ∷ [])) ≤ length word + a + b + 3
with_two word m n a b h k = omega (arith, length-line word (m ∷ n ∷ []), h, k)

with_three : (word : List ℕ) (l m n a : ℕ) → length (decimal l) ≤ a → length (decimal m) ≤ a → length (decimal n) ≤ a
    → length (line word (l ∷ m ∷ n ∷ [])) ≤ length word + 3 * a + 4
with_three word l m n a g h k = omega (arith, length-line word (l ∷ m ∷ n ∷ []), g, h, k)

-- code

length-operator : (operator : Operator) → length (operator_word operator) ≤ 3
length-operator operators.Add = omega arith
length-operator operators.Sub = omega arith
length-operator operators.Mul = omega arith
length-operator operators.Div = omega arith
length-operator operators.Rem = omega arith
length-operator operators.And = omega arith
length-operator operators.Or = omega arith
length-operator operators.Xor = omega arith
length-operator operators.Shl = omega arith
length-operator operators.Shr = omega arith
length-operator operators.Min = omega arith
length-operator operators.Max = omega arith
length-operator operators.Eq = omega arith
length-operator operators.Lt = omega arith

mutual
  op_room : (op : Op) → IsSpelledOp op → length (op_text op) ≤ 52 * op_nodes op
  op_room (Push word) h = omega (arith, with_one (codes "push") word 20 (word_digits word h))
  op_room (Load l) h = omega (arith, with_one (codes "load") l 20 (word_digits l h))
  op_room (Store l) h = omega (arith, with_one (codes "store") l 20 (word_digits l h))
  op_room Frame h = omega (arith, length-line (codes "frame") [])
  op_room (Get slot) h = omega (arith, with_one (codes "get") slot 20 (word_digits slot h))
  op_room (Put output) h = omega (arith, with_one (codes "put") output 20 (word_digits output h))
  op_room (Bin operator) h = omega (arith, length-line (operator_word operator) [], length-operator operator)
  op_room Sel h = omega (arith, length-line (codes "sel") [])
  op_room (Loop l count turn) h =
      let begin = line (codes "loop") (l ∷ count ∷ []) in
      let done = line (codes "done") [] in
      omega (
        arith,
        length-append (begin ++ code_text turn) done,
        length-append begin (code_text turn),
        with_two (codes "loop") l count 20 20 (word_digits l h.0) (word_digits count h.1),
        length-line (codes "done") [],
        code_room turn h.2,
      )

  code_room : (code : Code) → IsSpelledCode code → length (code_text code) ≤ 52 * code_nodes code
  code_room End h = omega arith
  code_room (Then op rest) h =
      omega (arith, length-append (op_text op) (code_text rest), op_room op h.0, code_room rest h.1)

-- data

datum_room : (d : RawDatum) → IsTrue (is_name d.name) → d.length ≤ LENGTH → length (datum_text d) ≤ 42
datum_room d named low =
    let name : length d.name ≤ 32 = grind (arith, nat_tests) in
    omega (
      arith,
      with_one (codes "datum " ++ d.name) d.length 2 (two_digits d.length (omega (arith, low))),
      length-append (codes "datum ") d.name,
      name,
    )

datums_room : (ds : List RawDatum) → AllByRecursion (λ d. IsTrue (is_name d.name)) ds → All (λ d. (LEAST_LENGTH ≤ d.length) × (d.length ≤ LENGTH)) ds
    → length (flat_map datum_text ds) ≤ length ds * 42
datums_room ds names lengths =
    let each : All (λ d. length (datum_text d) ≤ 42) ds = λ i d l. datum_room (get_or ds i d) (All-from_recursion (λ (x : RawDatum). IsTrue (is_name x.name)) ds names i d l) (lengths i d l).1 in
    omega (arith, length-flat_map datum_text ds, sum_by-le (λ d. length (datum_text d)) 42 ds each)

-- numbers of data

ids_room : (count : ℕ) (xs : List ℕ) → count ≤ DATUMS → IsKept (fresh count xs) → sum_by (λ n. length (spaced n)) xs ≤ length xs * 5
ids_room count xs few kept =
    sum_by-le (λ n. length (spaced n)) 5 xs
    (All-from_get_or (λ n. length (spaced n) ≤ 5) xs 0
    (λ i l. let low = (fresh_at count xs i kept l).0 in
    omega (arith, four_digits (get_or xs i 0) (omega (arith, low, few)))))

-- tasks

-- what makes the text of a task short
record IsShort (count : ℕ) (task : RawTask) : Type 0 where
  reads : IsKept (fresh count task.reads)
  writes : IsKept (fresh count task.writes)
  locals : task.locals ≤ LOCALS
  code : IsSpelledCode (tree_of task)

task_room : (count : ℕ) (task : RawTask) → count ≤ DATUMS → IsShort count task
    → length (task_text task) ≤ 25 + 5 * length task.reads + 5 * length task.writes + 52 * code_nodes (tree_of task)
task_room count task few short =
    let begin = line (codes "task") (task.locals ∷ []) in
    let reads = line (codes "reads") task.reads in
    let writes = line (codes "writes") task.writes in
    let code = code_text (tree_of task) in
    let end = line (codes "end") [] in
    let whole : length (task_text task) ≡ length begin + length reads + length writes + length code + length end =
    omega (arith, length-append (begin ++ reads ++ writes ++ code) end, length-append (begin ++ reads ++ writes) code, length-append (begin ++ reads) writes, length-append begin reads) in
    omega (
      arith,
      whole,
      with_one (codes "task") task.locals 2 (two_digits task.locals (omega (arith, short.locals))),
      length-line (codes "reads") task.reads,
      ids_room count task.reads few short.reads,
      length-line (codes "writes") task.writes,
      ids_room count task.writes few short.writes,
      code_room (tree_of task) short.code,
      length-line (codes "end") [],
    )

tasks_room : (count : ℕ) (tasks : List RawTask) → count ≤ DATUMS → All (IsShort count) tasks
    → length (flat_map task_text tasks) ≤ 25 * length tasks + 5 * sum_by (λ t. length t.reads) tasks + 5 * sum_by (λ t. length t.writes) tasks + 52 * sum_by (λ t. code_nodes (tree_of t)) tasks
tasks_room count [] few short = omega arith
tasks_room count (t ∷ tasks) few short =
    omega (
      arith,
      length-append (task_text t) (flat_map task_text tasks),
      task_room count t few (All-head (IsShort count) t tasks short),
      tasks_room count tasks few (All-tail (IsShort count) t tasks short),
      sum_by-cons (λ (x : RawTask). length x.reads) t tasks,
      sum_by-cons (λ (x : RawTask). length x.writes) t tasks,
      sum_by-cons (λ (x : RawTask). code_nodes (tree_of x)) t tasks,
    )

short_tasks : (raw : RawBundle) → IsLawful raw → IsWithinLimits raw → IsSpelled raw → All (IsShort (datum_count raw)) raw.tasks
short_tasks raw lawful limits spelled =
    All-from_get_or (IsShort (datum_count raw)) raw.tasks (record { locals = 0; reads = []; writes = []; code = [] })
    (λ t l. record {
      reads = reads_fresh raw t lawful.accesses l;
      writes = writes_fresh raw t lawful.accesses l;
      locals = (limits.each_task t _ l).code.locals;
      code = (All-from_recursion IsSpelledTask raw.tasks spelled.tasks t _ l).code;
    })

-- writes: each datum is written once, so all writes together are as many as the data at most

-- 1 where a test passes, else 0
abbrev one : Bool → ℕ
one b = cond b 1 0

-- of a number that comes to a list that lacks it: below k + 1 it is where it is below k or is k
next_counted : (x k : ℕ) (t : Bool) → (k ≡ x → t ≡ false) → one (nat_lt x (k + 1)) + one t ≤ one (nat_lt x k) + one (t || nat_eq k x)
next_counted x k t new = grind (arith, nat_tests)

-- how many numbers of a list are below k
abbrev below : ℕ → List ℕ → ℕ
below k xs = count_by (λ x. nat_lt x k) xs

below_next : (count k : ℕ) (xs : List ℕ) → IsKept (fresh count xs) → below (k + 1) xs ≤ below k xs + one (list_any (nat_eq k) xs)
below_next count k xs kept = subst AreCounted (take_all (length xs) xs (omega arith)) (upto (length xs) (omega arith))
  where
    AreCounted : List ℕ → Type 0
    AreCounted ys = below (k + 1) ys ≤ below k ys + one (list_any (nat_eq k) ys)

    upto : (i : ℕ) → i ≤ length xs → AreCounted (take i xs)
    upto zero l = omega arith
    upto (suc i) l =
        let next : suc i ≡ i + 1 = omega arith in
        let new = fresh_at count xs i kept (omega (arith, l)) in
        subst (λ n. AreCounted (take n xs)) (sym next)
        (omega (
          arith,
          upto i (omega (arith, l)),
          sum_by_more (λ x. one (nat_lt x (k + 1))) xs i 0 (omega (arith, l)),
          sum_by_more (λ x. one (nat_lt x k)) xs i 0 (omega (arith, l)),
          ap one (list_any_more (nat_eq k) xs i 0 (omega (arith, l))),
          next_counted (get_or xs i 0) k (list_any (nat_eq k) (take i xs)) (λ e. subst (λ y. list_any (nat_eq y) (take i xs) ≡ false) (sym e) new.1),
        ))

none_below : (xs : List ℕ) → below 0 xs ≤ 0
none_below xs =
    omega (arith, sum_by-le (λ x. one (nat_lt x 0)) 0 xs (λ i d l. omega (arith, ap one (le-ltb (get_or xs i d) 0 (omega arith)))))

all_counted : (p : ℕ → Bool) (xs : List ℕ) → All (λ x. p x ≡ true) xs → length xs ≤ count_by p xs
all_counted p [] all = omega arith
all_counted p (x ∷ xs) all =
    omega (arith, sum_by-cons (λ y. one (p y)) x xs, ap one (All-head (λ y. p y ≡ true) x xs all), all_counted p xs (All-tail (λ y. p y ≡ true) x xs all))

all_below : (count : ℕ) (xs : List ℕ) → IsKept (fresh count xs) → length xs ≤ below count xs
all_below count xs kept =
    all_counted (λ x. nat_lt x count) xs
    (All-from_get_or (λ x. nat_lt x count ≡ true) xs 0 (λ i l. lt-ltb (get_or xs i 0) count (fresh_at count xs i kept l).0))

-- how many of the writes are below k
abbrev writes_below : ℕ → List RawTask → ℕ
writes_below k tasks = sum_by (λ t. below k t.writes) tasks

writes_next : (count k : ℕ) (tasks : List RawTask) → All (IsShort count) tasks → writes_below (k + 1) tasks ≤ writes_below k tasks + count_by (is_written_by k) tasks
writes_next count k [] short = omega arith
writes_next count k (t ∷ tasks) short =
    omega (
      arith,
      sum_by-cons (λ (x : RawTask). below (k + 1) x.writes) t tasks,
      sum_by-cons (λ (x : RawTask). below k x.writes) t tasks,
      sum_by-cons (λ (x : RawTask). one (is_written_by k x)) t tasks,
      below_next count k t.writes (All-head (IsShort count) t tasks short).writes,
      writes_next count k tasks (All-tail (IsShort count) t tasks short),
    )

all_writes : (count : ℕ) (tasks : List RawTask) → All (IsShort count) tasks → sum_by (λ t. length t.writes) tasks ≤ writes_below count tasks
all_writes count [] short = omega arith
all_writes count (t ∷ tasks) short =
    omega (
      arith,
      sum_by-cons (λ (x : RawTask). length x.writes) t tasks,
      sum_by-cons (λ (x : RawTask). below count x.writes) t tasks,
      all_below count t.writes (All-head (IsShort count) t tasks short).writes,
      all_writes count tasks (All-tail (IsShort count) t tasks short),
    )

one_writer : (raw : RawBundle) (d : ℕ) → IsKept (writers raw) → d < datum_count raw → count_by (is_written_by d) raw.tasks ≡ 1
unfolding writers
one_writer raw d kept l = eqb-true (count_by (is_written_by d) raw.tasks) 1 (kept.kept d 0 l (omega arith))

few_writes_below : (raw : RawBundle) (k : ℕ) → All (IsShort (datum_count raw)) raw.tasks → IsKept (writers raw) → k ≤ datum_count raw → writes_below k raw.tasks ≤ k
few_writes_below raw zero short kept l =
    omega (arith, sum_by-le (λ t. below 0 t.writes) 0 raw.tasks (λ i d l. none_below (get_or raw.tasks i d).writes))
few_writes_below raw (suc k) short kept l =
    let next : suc k ≡ k + 1 = omega arith in
    subst (λ n. writes_below n raw.tasks ≤ n) (sym next)
    (omega (arith, writes_next (datum_count raw) k raw.tasks short, one_writer raw k kept (omega (arith, l)), few_writes_below raw k short kept (omega (arith, l))))

few_writes : (raw : RawBundle) → All (IsShort (datum_count raw)) raw.tasks → IsKept (writers raw) → sum_by (λ t. length t.writes) raw.tasks ≤ datum_count raw
few_writes raw short kept =
    omega (arith, all_writes (datum_count raw) raw.tasks short, few_writes_below raw (datum_count raw) short kept (omega arith))

-- prints and channels

prints_room : (prints : List ℕ) → AllByRecursion IsWord prints → length (flat_map print_text prints) ≤ length prints * 27
prints_room prints words =
    omega (
      arith,
      length-flat_map print_text prints,
      sum_by-le (λ d. length (print_text d)) 27 prints
          (All-weaker IsWord (λ d. length (print_text d) ≤ 27) (λ d h. omega (arith, with_one (codes "print") d 20 (word_digits d h))) prints (All-from_recursion IsWord prints words)),
    )

channel_room : (c : RawChannel) → IsSpelledChannel c → length (channel_text c) ≤ 71
channel_room c h =
    omega (arith, with_three (codes "channel") c.from c.to c.capacity 20 (word_digits c.from h.0) (word_digits c.to h.1) (word_digits c.capacity h.2))

channels_room : (channels : List RawChannel) → AllByRecursion IsSpelledChannel channels → length (flat_map channel_text channels) ≤ length channels * 71
channels_room channels words =
    omega (
      arith,
      length-flat_map channel_text channels,
      sum_by-le (λ c. length (channel_text c)) 71 channels
          (All-weaker IsSpelledChannel (λ c. length (channel_text c) ≤ 71) channel_room channels (All-from_recursion IsSpelledChannel channels words)),
    )

-- processors

instr_room : (raw : RawBundle) (p : ℕ) (instr : RawInstr) → IsWithinLimits raw → fits raw p instr ≡ true → length (instr_text instr) ≤ 13
instr_room raw p (Recv from d) limits h =
    let parts = and_parts (nat_lt from (processor_count raw) && not (from == p)) (nat_lt d (datum_count raw)) h in
    let other = ltb-true from (processor_count raw) (and_parts (nat_lt from (processor_count raw)) (not (from == p)) parts.0).0 in
    let datum = ltb-true d (datum_count raw) parts.1 in
    omega (arith, with_two (codes "recv") from d 2 4 (two_digits from (omega (arith, other, limits.processors))) (four_digits d (omega (arith, datum, limits.datums))))
instr_room raw p (Exec t) limits h =
    let task = ltb-true t (task_count raw) h in
    omega (arith, with_one (codes "exec") t 4 (four_digits t (omega (arith, task, limits.tasks))))
instr_room raw p (Send to d) limits h =
    let parts = and_parts (nat_lt to (processor_count raw) && not (to == p)) (nat_lt d (datum_count raw)) h in
    let other = ltb-true to (processor_count raw) (and_parts (nat_lt to (processor_count raw)) (not (to == p)) parts.0).0 in
    let datum = ltb-true d (datum_count raw) parts.1 in
    omega (arith, with_two (codes "send") to d 2 4 (two_digits to (omega (arith, other, limits.processors))) (four_digits d (omega (arith, datum, limits.datums))))

abbrev AreShort : List RawInstr → Type 0
AreShort code = All (λ instr. length (instr_text instr) ≤ 13) code

short_instrs : (raw : RawBundle) → IsLawful raw → IsWithinLimits raw → All AreShort raw.code
short_instrs raw lawful limits =
    All-from_get_or AreShort raw.code []
    (λ p l i d k. let instr = get_or (code_in raw.code p) i d in
    instr_room raw p instr limits (fits_at_place raw p i lawful.operands l instr k (slice_get-get_or (code_in raw.code p) i d k)))

processors_room : (p : ℕ) (code : List (List RawInstr)) → p + length code ≤ PROCESSORS → All AreShort code
    → length (processors_text p code) ≤ 13 * length code + 13 * sum_by length code
processors_room p [] few short = omega arith
processors_room p (row ∷ rest) few short =
    let begin = line (codes "processor") (p ∷ []) in
    omega (
      arith,
      length-append (begin ++ flat_map instr_text row) (processors_text (p + 1) rest),
      length-append begin (flat_map instr_text row),
      with_one (codes "processor") p 2 (two_digits p (omega (arith, few))),
      length-flat_map instr_text row,
      sum_by-le (λ instr. length (instr_text instr)) 13 row (All-head AreShort row rest short),
      processors_room (p + 1) rest (omega (arith, few)) (All-tail AreShort row rest short),
      sum_by-cons length row rest,
    )

-- the whole text

length-text : (raw : RawBundle) → length (text_of raw)
    ≡ length (line (codes "pyrros") (1 ∷ [])) + length (line (codes "processors") (length raw.code ∷ []))
    + length (flat_map datum_text raw.datums) + length (flat_map task_text raw.tasks) + length (flat_map print_text raw.prints)
    + length (flat_map channel_text raw.channels) + length (processors_text 0 raw.code) + length (line (codes "stop") [])
unfolding text_of
length-text raw =
    let version = line (codes "pyrros") (1 ∷ []) in
    let count = line (codes "processors") (length raw.code ∷ []) in
    let datums = flat_map datum_text raw.datums in
    let tasks = flat_map task_text raw.tasks in
    let prints = flat_map print_text raw.prints in
    let channels = flat_map channel_text raw.channels in
    let processors = processors_text 0 raw.code in
    let stop = line (codes "stop") [] in
    omega (
      arith,
      length-append version count,
      length-append (version ++ count) datums,
      length-append (version ++ count ++ datums) tasks,
      length-append (version ++ count ++ datums ++ tasks) prints,
      length-append (version ++ count ++ datums ++ tasks ++ prints) channels,
      length-append (version ++ count ++ datums ++ tasks ++ prints ++ channels) processors,
      length-append (version ++ count ++ datums ++ tasks ++ prints ++ channels ++ processors) stop,
    )

raw_texts_fit : (raw : RawBundle) → IsLawful raw → IsWithinLimits raw → IsSpelled raw → length (text_of raw) ≤ INPUT
raw_texts_fit raw lawful limits spelled =
    let short = short_tasks raw lawful limits spelled in
    omega (
      arith,
      length-text raw,
      with_one (codes "pyrros") 1 2 (two_digits 1 (omega arith)),
      with_one (codes "processors") (length raw.code) 2 (two_digits (length raw.code) (omega (arith, limits.processors))),
      datums_room raw.datums spelled.names limits.lengths,
      limits.datums,
      tasks_room (datum_count raw) raw.tasks limits.datums short,
      limits.tasks,
      limits.all_reads,
      few_writes raw short lawful.writers,
      limits.all_nodes,
      prints_room raw.prints spelled.prints,
      limits.prints,
      channels_room raw.channels spelled.channels,
      limits.channels,
      processors_room 0 raw.code (omega (arith, limits.processors)) (short_instrs raw lawful limits),
      limits.processors,
      limits.instructions,
      length-line (codes "stop") [],
    )

pub texts_fit : (b : Parts) → IsBundle b → IsSpelled (raw_of b) → length (text_of (raw_of b)) ≤ INPUT
texts_fit b is spelled = raw_texts_fit (raw_of b) is.lawful is.limits spelled
