-- The laws of bundles, in their order.
use Rattle.std.specs.Prelude.{ℕ, ◌+◌, ◌-◌, Bool, true, false, not, ◌&&◌, ◌||◌, ◌==◌, nat_lt, nat_le, nat_eq, if◌then◌else◌, List, [], ◌∷◌, length, take, map, filter, count_by, sum_by, max, bytes_eq, slice_get, slice_index, slice_index_or, Option, Some, None}
use Rattle.std.specs.List.{list_any, flat_map, range_with_len}
use Rattle.pyr_code.specs.declared.code_fault.CodeFault.{CodeFault}
use Rattle.pyr_code.specs.declared.code_fault.CodeFault.TheVariants.{BadCode}
use Rattle.pyr_code.specs.Size.{code_nodes}
use Rattle.pyr_code.specs.Fault.{first_fault}
use Rattle.pyr_bundle.specs.declared.raw_bundle.RawBundle.{RawBundle}
use Rattle.pyr_bundle.specs.declared.raw_datum.RawDatum.{RawDatum}
use Rattle.pyr_bundle.specs.declared.raw_task.RawTask.{RawTask}
use Rattle.pyr_bundle.specs.declared.raw_channel.RawChannel.{RawChannel}
use Rattle.pyr_bundle.specs.declared.raw_instr.RawInstr.{RawInstr}
use Rattle.pyr_bundle.specs.declared.raw_instr.RawInstr.TheVariants.{Recv, Exec, Send}
use Rattle.pyr_bundle.specs.Law.{Law, single}
use Rattle.pyr_bundle.specs.Raw.{datum_count, task_count, processor_count, task_in, code_in, shape_of, tree_of}

-- 1. Data names differ. The place is the datum whose name an earlier one has.
abbrev pub names_of : List RawDatum → List (List ℕ)
names_of datums = map (λ d. d.name) datums

abbrev pub is_new_name : List (List ℕ) → ℕ → Bool
is_new_name names d = not (list_any (λ e. bytes_eq e (slice_index_or names d [])) (take d names))

unfoldable pub names : RawBundle → Law
names raw = single (datum_count raw) (is_new_name (names_of raw.datums))

-- The number at i of a list is below a count, and none before it is the same.
abbrev pub is_new : ℕ → List ℕ → ℕ → Bool
is_new count numbers i =
    nat_lt (slice_index numbers i) count
    && not (list_any (nat_eq (slice_index numbers i)) (take i numbers))

-- the numbers of a list are below a count and differ
abbrev pub fresh : ℕ → List ℕ → Law
fresh count numbers = single (length numbers) (is_new count numbers)

-- 2. A task's reads and writes name data, none twice in one list. The place is the task, and the
-- index in the reads followed by the writes.
abbrev pub is_new_access : ℕ → RawTask → ℕ → Bool
is_new_access count task i =
    if nat_lt i (length task.reads) then is_new count task.reads i
    else is_new count task.writes (i - length task.reads)

unfoldable pub accesses : RawBundle → Law
accesses raw = record {
  rows = task_count raw;
  columns = λ t. length (task_in raw.tasks t).reads + length (task_in raw.tasks t).writes;
  passes = λ t i. is_new_access (datum_count raw) (task_in raw.tasks t) i;
}

-- 3. Each datum is in the writes of exactly one task. The place is the datum.
abbrev pub is_written_by : ℕ → RawTask → Bool
is_written_by d task = list_any (nat_eq d) task.writes

unfoldable pub writers : RawBundle → Law
writers raw = single (datum_count raw) (λ d. count_by (is_written_by d) raw.tasks == 1)

-- 4. Each task's code is well-formed. The place is the task, and the place of its first fault.
abbrev pub is_fault_at : ℕ → Option CodeFault → Bool
is_fault_at i (Some (BadCode place kind)) = place == i
is_fault_at i _ = false

abbrev pub code_fault_of : RawTask → Option CodeFault
code_fault_of task = first_fault (shape_of task) (tree_of task)

unfoldable pub codes : RawBundle → Law
codes raw = record {
  rows = task_count raw;
  columns = λ t. code_nodes (tree_of (task_in raw.tasks t)) + 1;
  passes = λ t i. not (is_fault_at i (code_fault_of (task_in raw.tasks t)));
}

-- 5. Printed data exist and differ. The place is the index of the print.
unfoldable pub prints : RawBundle → Law
prints raw = fresh (datum_count raw) raw.prints

-- a law with a place for each instruction: its processor and its index
abbrev pub by_instr : List (List RawInstr) → (ℕ → ℕ → Option RawInstr → Bool) → Law
by_instr code passes = record {
  rows = length code;
  columns = λ p. length (code_in code p);
  passes = λ p i. passes p i (slice_get (code_in code p) i);
}

-- 6. An instruction's datum, task and processor exist, and its processor isn't its own.
abbrev pub is_other : RawBundle → ℕ → ℕ → Bool
is_other raw p q = nat_lt q (processor_count raw) && not (q == p)

abbrev pub fits : RawBundle → ℕ → RawInstr → Bool
fits raw p (Recv from d) = is_other raw p from && nat_lt d (datum_count raw)
fits raw p (Exec t) = nat_lt t (task_count raw)
fits raw p (Send to d) = is_other raw p to && nat_lt d (datum_count raw)

abbrev pub fits_at : RawBundle → ℕ → ℕ → Option RawInstr → Bool
fits_at raw p i None = true
fits_at raw p i (Some instr) = fits raw p instr

unfoldable pub operands : RawBundle → Law
operands raw = by_instr raw.code (fits_at raw)

-- 7. Each task stands in exactly one `exec`. The place is the task.
abbrev pub is_exec : ℕ → RawInstr → Bool
is_exec t (Exec u) = u == t
is_exec t _ = false

unfoldable pub executions : RawBundle → Law
executions raw = single (task_count raw) (λ t. sum_by (count_by (is_exec t)) raw.code == 1)

-- 8. Each pair of datum and destination stands in at most one `send`. The place is the first that
-- repeats an earlier one, by processor and index.
abbrev pub is_send : ℕ → ℕ → RawInstr → Bool
is_send q d (Send to e) = to == q && e == d
is_send q d _ = false

abbrev pub is_new_send : List (List RawInstr) → ℕ → ℕ → Option RawInstr → Bool
is_new_send code p i (Some (Send to d)) =
    not (list_any (list_any (is_send to d)) (take p code)
    || list_any (is_send to d) (take i (code_in code p)))
is_new_send code p i _ = true

unfoldable pub sends : RawBundle → Law
sends raw = by_instr raw.code (is_new_send raw.code)

-- 9. In one processor's code each datum stands in at most one `recv`. The place is the first repeat.
abbrev pub is_receive : ℕ → RawInstr → Bool
is_receive d (Recv from e) = e == d
is_receive d _ = false

abbrev pub is_new_receive : List (List RawInstr) → ℕ → ℕ → Option RawInstr → Bool
is_new_receive code p i (Some (Recv from d)) =
    not (list_any (is_receive d) (take i (code_in code p)))
is_new_receive code p i _ = true

unfoldable pub receives : RawBundle → Law
receives raw = by_instr raw.code (is_new_receive raw.code)

-- how many sends from p to q there are
abbrev pub is_send_to : ℕ → RawInstr → Bool
is_send_to q (Send to d) = to == q
is_send_to q _ = false

abbrev pub send_count : List (List RawInstr) → ℕ → ℕ → ℕ
send_count code p q = count_by (is_send_to q) (code_in code p)

-- the pairs of processors with at least one send from the one to the other, by rising pair
abbrev pub pairs_from : List (List RawInstr) → ℕ → List (ℕ × ℕ)
pairs_from code p =
    map (λ q. (p, q))
    (filter (λ q. nat_lt 0 (send_count code p q)) (range_with_len 0 (length code)))

abbrev pub pairs_of : List (List RawInstr) → List (ℕ × ℕ)
pairs_of code = flat_map (pairs_from code) (range_with_len 0 (length code))

-- 10. The channel lines are, by rising (from, to), the pairs with at least one send. The place is
-- the first line that differs, is missing or is too many.
abbrev pub is_line_of : Option RawChannel → Option (ℕ × ℕ) → Bool
is_line_of (Some c) (Some pair) = c.from == pair.0 && c.to == pair.1
is_line_of None None = true
is_line_of _ _ = false

unfoldable pub channels : RawBundle → Law
channels raw =
    single (max (length raw.channels) (length (pairs_of raw.code)))
    (λ i. is_line_of (slice_get raw.channels i) (slice_get (pairs_of raw.code) i))

-- 11. A capacity is from 1 to its channel's number of sends. The place is the channel.
abbrev pub is_fine_capacity : List (List RawInstr) → Option RawChannel → Bool
is_fine_capacity code (Some c) =
    nat_le 1 c.capacity && nat_le c.capacity (send_count code c.from c.to)
is_fine_capacity code None = true

unfoldable pub capacities : RawBundle → Law
capacities raw =
    single (length raw.channels) (λ i. is_fine_capacity raw.code (slice_get raw.channels i))

-- all laws, in the order of their numbers, which count from 1
unfoldable pub laws : RawBundle → List Law
laws raw =
    names raw ∷ accesses raw ∷ writers raw ∷ codes raw ∷ prints raw ∷ operands raw
    ∷ executions raw ∷ sends raw ∷ receives raw ∷ channels raw ∷ capacities raw ∷ []
