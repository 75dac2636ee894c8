-- What is said of fine lines is within the limits, and can be written.
use Rattle.std.proofs.Common.{◌≡◌, ℕ, ◌+◌, ◌<◌, ◌≤◌, Bool, true, false, cond, ◌&&◌, List, [], ◌∷◌, ◌++◌, length, All, Option, None, refl, ap, ◌∙◌, arith}
use Rattle.std.specs.Prelude.{◌==◌, nat_lt, nat_le, sum_by}
use Rattle.std.proofs.lemmas.List.{length-append}
use Rattle.std.proofs.lemmas.List.Elements.{All-push}
use Rattle.std.proofs.lemmas.List.Sums.{sum_by-append, sum_by-cons}
use Rattle.std.proofs.lemmas.Bool.{eqb-true, ltb-true, leb-true}
use Rattle.pyr_num.specs.declared.limits.Quantity.{Quantity}
use Rattle.pyr_num.specs.declared.limits.Quantity.TheVariants as quantities
use Rattle.pyr_num.specs.declared.limits.TheConstants.Limits.{LEAST_PROCESSORS, PROCESSORS, TASKS, DATUMS, LEAST_LENGTH, LENGTH, READS, ALL_READS, WRITES, NODES, ALL_NODES, LOOPS, COUNT, LOCALS, WORK, ALL_WORK, PRINTS, CHANNELS, INSTRUCTIONS}
use Rattle.pyr_decimal.proofs.Choices.{both}
use Rattle.pyr_code.specs.declared.op.Op.{Op as OpValue}
use Rattle.pyr_code.specs.declared.op.Op.TheVariants as ops
use Rattle.pyr_code.specs.Seen.{op_of, code_of as tree_of_ops}
use Rattle.pyr_code.specs.Size.{code_nodes, op_loops, code_loops, op_count, code_count, code_work}
use Rattle.pyr_code.proofs.SeenLemmas.{op_of-Loop}
use Rattle.pyr_bundle.specs.Raw.{IsTaskWithinLimits, IsWithinLimits, tree_of}
use Rattle.pyr_bundle.specs.declared.raw_datum.RawDatum.{RawDatum}
use Rattle.pyr_bundle.specs.declared.raw_task.RawTask.{RawTask}
use Rattle.pyr_bundle.specs.declared.raw_channel.RawChannel.{RawChannel}
use Rattle.pyr_bundle.specs.declared.raw_instr.RawInstr.{RawInstr}
use Rattle.pyr_bundletext.specs.declared.plain_op.PlainOp.{PlainOp}
use Rattle.pyr_bundletext.specs.declared.plain_op.PlainOp.TheVariants as plain
use Rattle.pyr_bundletext.specs.declared.open_loop.OpenLoop.{OpenLoop}
use Rattle.pyr_bundletext.specs.declared.line.Line.{Line}
use Rattle.pyr_bundletext.specs.declared.line.Line.TheVariants.{Pyrros, Processors, Datum, Task, Reads, Writes, Plain, Loop, Done, End, Print, Channel, Processor, Instr, Stop}
use Rattle.pyr_bundletext.specs.declared.stage.Stage.{Stage}
use Rattle.pyr_bundletext.specs.declared.stage.Stage.TheVariants as stages
use Rattle.pyr_bundletext.specs.Earlier.{Said, Nest, no_code, plain_op, with_op, with_loop, ended, raw_said}
use Rattle.pyr_bundletext.specs.Faults.{may_stand, passed_limit, unless, nodes_in, all_reads, all_nodes, all_work, instr_count, is_code}
use Rattle.pyr_bundletext.specs.Tells.{advance}
use Rattle.pyr_bundletext.proofs.CodeLemmas.{loops_more, count_more, with_op_nodes, with_loop_nodes, ended_nodes, plain_tree, plain_seen}
use Rattle.pyr_bundletext.proofs.TextLemmas.{rank, at_begun, at_reads, at_code}

-- a test that was passed, and the others behind it
pub passed : (t : Bool) (which : Quantity) (others : Option Quantity) → unless t which others ≡ None → (t ≡ true) × (others ≡ None)
passed true which others h = (refl, h)
passed false which others h = absurd cc

-- loops

abbrev pub IsShallow : List OpenLoop → List OpValue → Type 0
IsShallow [] current = (code_loops (tree_of_ops current) ≤ LOOPS) × (code_count (tree_of_ops current) ≤ COUNT)
IsShallow (o ∷ outer) current =
    (length (o ∷ outer) + code_loops (tree_of_ops current) ≤ LOOPS) × (code_count (tree_of_ops current) ≤ COUNT)
    × (o.count ≤ COUNT) × IsShallow outer o.before

tree_loops : (op : PlainOp) → op_loops (plain_tree op) ≡ 0
tree_loops (plain.Push word) = refl
tree_loops (plain.Load l) = refl
tree_loops (plain.Store l) = refl
tree_loops plain.Frame = refl
tree_loops (plain.Get slot) = refl
tree_loops (plain.Put output) = refl
tree_loops (plain.Bin operator) = refl
tree_loops plain.Sel = refl

tree_count : (op : PlainOp) → op_count (plain_tree op) ≡ 0
tree_count (plain.Push word) = refl
tree_count (plain.Load l) = refl
tree_count (plain.Store l) = refl
tree_count plain.Frame = refl
tree_count (plain.Get slot) = refl
tree_count (plain.Put output) = refl
tree_count (plain.Bin operator) = refl
tree_count plain.Sel = refl

plain_loops : (op : PlainOp) → op_loops (op_of (plain_op op)) ≡ 0
plain_loops op = ap op_loops (plain_seen op) ∙ tree_loops op

plain_count : (op : PlainOp) → op_count (op_of (plain_op op)) ≡ 0
plain_count op = ap op_count (plain_seen op) ∙ tree_count op

-- an op more, which is as deep as the place allows
more_shallow : (outer : List OpenLoop) (current : List OpValue) (op : OpValue)
    → length outer + op_loops (op_of op) ≤ LOOPS → op_count (op_of op) ≤ COUNT
    → IsShallow outer current → IsShallow outer (current ++ op ∷ [])
more_shallow [] current op h k is =
    (omega (arith, loops_more current op, h, is.0), omega (arith, count_more current op, k, is.1))
more_shallow (o ∷ outer) current op h k is =
    (omega (arith, loops_more current op, h, is.0), omega (arith, count_more current op, k, is.1), is.2, is.3)

loops_within : (outer : List OpenLoop) (current : List OpValue) → IsShallow outer current → length outer + code_loops (tree_of_ops current) ≤ LOOPS
loops_within [] current is = omega (arith, is.0)
loops_within (o ∷ outer) current is = is.0

count_within : (outer : List OpenLoop) (current : List OpValue) → IsShallow outer current → code_count (tree_of_ops current) ≤ COUNT
count_within [] current is = is.1
count_within (o ∷ outer) current is = is.1

plain_shallow : (nest : Nest) (op : PlainOp) → IsShallow nest.outer nest.current → IsShallow nest.outer (with_op nest (plain_op op)).current
plain_shallow nest op is =
    more_shallow nest.outer nest.current (plain_op op) (omega (arith, plain_loops op, loops_within nest.outer nest.current is)) (omega (arith, plain_count op)) is

loop_shallow : (nest : Nest) (l count : ℕ) → length nest.outer < LOOPS → count ≤ COUNT → IsShallow nest.outer nest.current
    → IsShallow (with_loop nest l count).outer (with_loop nest l count).current
loop_shallow nest l count deep few is = (omega (arith, deep), omega arith, few, is)

ended_shallow : (outer : List OpenLoop) (current : List OpValue) → IsShallow outer current → IsShallow (ended outer current).outer (ended outer current).current
ended_shallow [] current is = is
ended_shallow (o ∷ outer) current is =
    let loop = ops.Loop o.local o.count current in
    more_shallow outer o.before loop
    (omega (arith, ap op_loops (op_of-Loop o.local o.count current), is.0))
    (omega (arith, ap op_count (op_of-Loop o.local o.count current), is.1, is.2))
    is.3

-- a task is open
abbrev pub is_open : Stage → Bool
is_open stages.TaskBegun = true
is_open stages.TaskReads = true
is_open stages.Code = true
is_open _ = false

-- what is said is within the limits
pub record AreWithin (s : Said) : Type 0 where
  pub processors : s.processors ≤ PROCESSORS
  pub some : rank s.stage ≡ 7 → LEAST_PROCESSORS ≤ length s.code
  pub tasks : length s.tasks ≤ TASKS
  pub room : is_open s.stage ≡ true → length s.tasks < TASKS
  pub datums : length s.datums ≤ DATUMS
  pub lengths : All (λ d. (LEAST_LENGTH ≤ d.length) × (d.length ≤ LENGTH)) s.datums
  pub each_task : All IsTaskWithinLimits s.tasks
  pub reads_in_all : all_reads s.tasks + length s.reads ≤ ALL_READS
  pub nodes_in_all : all_nodes s.tasks + nodes_in s.nest ≤ ALL_NODES
  pub work_in_all : all_work s.tasks ≤ ALL_WORK
  pub prints : length s.prints ≤ PRINTS
  pub channels : length s.channels ≤ CHANNELS
  pub instrs : instr_count s ≤ INSTRUCTIONS
  pub locals : s.locals ≤ LOCALS
  pub reads : length s.reads ≤ READS
  pub writes : length s.writes ≤ WRITES
  pub nodes : nodes_in s.nest ≤ NODES
  pub shallow : IsShallow s.nest.outer s.nest.current

length_more : {X : Type 0} (xs : List X) (x : X) → length (xs ++ x ∷ []) ≡ length xs + 1
length_more xs x = length-append xs (x ∷ [])

sum_more : {X : Type 0} (f : X → ℕ) (xs : List X) (x : X) → sum_by f (xs ++ x ∷ []) ≡ sum_by f xs + f x
sum_more f xs x = omega (arith, sum_by-append f xs (x ∷ []), sum_by-cons f x [])

-- the test of a number of nodes
nodes_fit : (s : Said) (others : Option Quantity)
    → unless (nat_lt (nodes_in s.nest) NODES) quantities.Nodes (unless (nat_lt (all_nodes s.tasks + nodes_in s.nest) ALL_NODES) quantities.AllNodes others) ≡ None
    → (nodes_in s.nest < NODES) × (all_nodes s.tasks + nodes_in s.nest < ALL_NODES) × (others ≡ None)
nodes_fit s others h =
    let first = passed (nat_lt (nodes_in s.nest) NODES) quantities.Nodes (unless (nat_lt (all_nodes s.tasks + nodes_in s.nest) ALL_NODES) quantities.AllNodes others) h in
    let second = passed (nat_lt (all_nodes s.tasks + nodes_in s.nest) ALL_NODES) quantities.AllNodes others first.1 in
    (ltb-true (nodes_in s.nest) NODES first.0, ltb-true (all_nodes s.tasks + nodes_in s.nest) ALL_NODES second.0, second.1)

-- the task that ends
ended_task : (s : Said) → AreWithin s → length s.nest.outer ≡ 0 → code_work (tree_of_ops s.nest.current) ≤ WORK
    → IsTaskWithinLimits (record { locals = s.locals; reads = s.reads; writes = s.writes; code = s.nest.current })
ended_task s h none work = record {
  reads = h.reads;
  writes = h.writes;
  code = record {
    nodes = omega (arith, h.nodes);
    loops = omega (arith, loops_within s.nest.outer s.nest.current h.shallow);
    count = count_within s.nest.outer s.nest.current h.shallow;
    locals = h.locals;
    work = work;
  };
}

no_nodes : nodes_in no_code ≡ 0
no_nodes = refl

module _ (s : Said) (h : AreWithin s) where
  limit_pyrros : AreWithin (advance s Pyrros)
  unfolding advance
  limit_pyrros = record {
    processors = h.processors;
    some = λ e. absurd (omega (arith, e));
    tasks = h.tasks;
    room = λ e. absurd cc;
    datums = h.datums;
    lengths = h.lengths;
    each_task = h.each_task;
    reads_in_all = h.reads_in_all;
    nodes_in_all = h.nodes_in_all;
    work_in_all = h.work_in_all;
    prints = h.prints;
    channels = h.channels;
    instrs = h.instrs;
    locals = h.locals;
    reads = h.reads;
    writes = h.writes;
    nodes = h.nodes;
    shallow = h.shallow;
  }

  limit_processors : (count : ℕ) → passed_limit s (Processors count) ≡ None → AreWithin (advance s (Processors count))
  unfolding advance passed_limit
  limit_processors count k =
      let fits = passed (nat_le LEAST_PROCESSORS count && nat_le count PROCESSORS) quantities.Processors None k in
      record {
        processors = leb-true count PROCESSORS (both (nat_le LEAST_PROCESSORS count) (nat_le count PROCESSORS) fits.0).1;
        some = λ e. absurd (omega (arith, e));
        tasks = h.tasks;
        room = λ e. absurd cc;
        datums = h.datums;
        lengths = h.lengths;
        each_task = h.each_task;
        reads_in_all = h.reads_in_all;
        nodes_in_all = h.nodes_in_all;
        work_in_all = h.work_in_all;
        prints = h.prints;
        channels = h.channels;
        instrs = h.instrs;
        locals = h.locals;
        reads = h.reads;
        writes = h.writes;
        nodes = h.nodes;
        shallow = h.shallow;
      }

  limit_datum : (name : List ℕ) (words : ℕ) → passed_limit s (Datum name words) ≡ None → AreWithin (advance s (Datum name words))
  unfolding advance passed_limit
  limit_datum name words k =
      let first = passed (nat_lt (length s.datums) DATUMS) quantities.Datums (unless (nat_le LEAST_LENGTH words && nat_le words LENGTH) quantities.Length None) k in
      let second = passed (nat_le LEAST_LENGTH words && nat_le words LENGTH) quantities.Length None first.1 in
      let both_fit = both (nat_le LEAST_LENGTH words) (nat_le words LENGTH) second.0 in
      let datum : RawDatum = record { name = name; length = words } in
      record {
        processors = h.processors;
        some = λ e. absurd (omega (arith, e));
        tasks = h.tasks;
        room = λ e. absurd cc;
        datums = omega (arith, length_more s.datums datum, ltb-true (length s.datums) DATUMS first.0);
        lengths = All-push (λ (d : RawDatum). (LEAST_LENGTH ≤ d.length) × (d.length ≤ LENGTH)) s.datums datum h.lengths (leb-true LEAST_LENGTH words both_fit.0, leb-true words LENGTH both_fit.1);
        each_task = h.each_task;
        reads_in_all = h.reads_in_all;
        nodes_in_all = h.nodes_in_all;
        work_in_all = h.work_in_all;
        prints = h.prints;
        channels = h.channels;
        instrs = h.instrs;
        locals = h.locals;
        reads = h.reads;
        writes = h.writes;
        nodes = h.nodes;
        shallow = h.shallow;
      }

  limit_task : (locals : ℕ) → passed_limit s (Task locals) ≡ None → AreWithin (advance s (Task locals))
  unfolding advance passed_limit
  limit_task locals k =
      let first = passed (nat_lt (length s.tasks) TASKS) quantities.Tasks (unless (nat_le locals LOCALS) quantities.Locals None) k in
      let second = passed (nat_le locals LOCALS) quantities.Locals None first.1 in
      record {
        processors = h.processors;
        some = λ e. absurd (omega (arith, e));
        tasks = h.tasks;
        room = λ e. ltb-true (length s.tasks) TASKS first.0;
        datums = h.datums;
        lengths = h.lengths;
        each_task = h.each_task;
        reads_in_all = h.reads_in_all;
        nodes_in_all = h.nodes_in_all;
        work_in_all = h.work_in_all;
        prints = h.prints;
        channels = h.channels;
        instrs = h.instrs;
        locals = leb-true locals LOCALS second.0;
        reads = h.reads;
        writes = h.writes;
        nodes = h.nodes;
        shallow = h.shallow;
      }

  limit_reads : (datums : List ℕ) → s.stage ≡ stages.TaskBegun → passed_limit s (Reads datums) ≡ None → AreWithin (advance s (Reads datums))
  unfolding advance passed_limit
  limit_reads datums at k =
      let first = passed (nat_le (length datums) READS) quantities.Reads (unless (nat_le (all_reads s.tasks + length datums) ALL_READS) quantities.AllReads None) k in
      let second = passed (nat_le (all_reads s.tasks + length datums) ALL_READS) quantities.AllReads None first.1 in
      record {
        processors = h.processors;
        some = λ e. absurd (omega (arith, e));
        tasks = h.tasks;
        room = λ e. h.room (ap is_open at);
        datums = h.datums;
        lengths = h.lengths;
        each_task = h.each_task;
        reads_in_all = leb-true (all_reads s.tasks + length datums) ALL_READS second.0;
        nodes_in_all = h.nodes_in_all;
        work_in_all = h.work_in_all;
        prints = h.prints;
        channels = h.channels;
        instrs = h.instrs;
        locals = h.locals;
        reads = leb-true (length datums) READS first.0;
        writes = h.writes;
        nodes = h.nodes;
        shallow = h.shallow;
      }

  limit_writes : (datums : List ℕ) → s.stage ≡ stages.TaskReads → passed_limit s (Writes datums) ≡ None → AreWithin (advance s (Writes datums))
  unfolding advance passed_limit
  limit_writes datums at k =
      let first = passed (nat_le (length datums) WRITES) quantities.Writes None k in
      record {
        processors = h.processors;
        some = λ e. absurd (omega (arith, e));
        tasks = h.tasks;
        room = λ e. h.room (ap is_open at);
        datums = h.datums;
        lengths = h.lengths;
        each_task = h.each_task;
        reads_in_all = h.reads_in_all;
        nodes_in_all = omega (arith, h.nodes_in_all, no_nodes);
        work_in_all = h.work_in_all;
        prints = h.prints;
        channels = h.channels;
        instrs = h.instrs;
        locals = h.locals;
        reads = h.reads;
        writes = leb-true (length datums) WRITES first.0;
        nodes = omega arith;
        shallow = (omega arith, omega arith);
      }

  limit_plain : (op : PlainOp) → s.stage ≡ stages.Code → passed_limit s (Plain op) ≡ None → AreWithin (advance s (Plain op))
  unfolding advance passed_limit
  limit_plain op at k =
      let fits = nodes_fit s None k in
      record {
        processors = h.processors;
        some = λ e. absurd (omega (arith, e));
        tasks = h.tasks;
        room = λ e. h.room (ap is_open at);
        datums = h.datums;
        lengths = h.lengths;
        each_task = h.each_task;
        reads_in_all = h.reads_in_all;
        nodes_in_all = omega (arith, with_op_nodes s.nest op, fits.1);
        work_in_all = h.work_in_all;
        prints = h.prints;
        channels = h.channels;
        instrs = h.instrs;
        locals = h.locals;
        reads = h.reads;
        writes = h.writes;
        nodes = omega (arith, with_op_nodes s.nest op, fits.0);
        shallow = plain_shallow s.nest op h.shallow;
      }

  limit_loop : (local count : ℕ) → s.stage ≡ stages.Code → passed_limit s (Loop local count) ≡ None → AreWithin (advance s (Loop local count))
  unfolding advance passed_limit
  limit_loop local count at k =
      let others = unless (nat_lt (length s.nest.outer) LOOPS) quantities.Loops (unless (nat_le count COUNT) quantities.Count None) in
      let fits = nodes_fit s others k in
      let first = passed (nat_lt (length s.nest.outer) LOOPS) quantities.Loops (unless (nat_le count COUNT) quantities.Count None) fits.2 in
      let second = passed (nat_le count COUNT) quantities.Count None first.1 in
      record {
        processors = h.processors;
        some = λ e. absurd (omega (arith, e));
        tasks = h.tasks;
        room = λ e. h.room (ap is_open at);
        datums = h.datums;
        lengths = h.lengths;
        each_task = h.each_task;
        reads_in_all = h.reads_in_all;
        nodes_in_all = omega (arith, with_loop_nodes s.nest local count, fits.1);
        work_in_all = h.work_in_all;
        prints = h.prints;
        channels = h.channels;
        instrs = h.instrs;
        locals = h.locals;
        reads = h.reads;
        writes = h.writes;
        nodes = omega (arith, with_loop_nodes s.nest local count, fits.0);
        shallow = loop_shallow s.nest local count (ltb-true (length s.nest.outer) LOOPS first.0) (leb-true count COUNT second.0) h.shallow;
      }

  limit_done : s.stage ≡ stages.Code → AreWithin (advance s Done)
  unfolding advance
  limit_done at =
      let same = ended_nodes s.nest.outer s.nest.current in
      record {
        processors = h.processors;
        some = λ e. absurd (omega (arith, e));
        tasks = h.tasks;
        room = λ e. h.room (ap is_open at);
        datums = h.datums;
        lengths = h.lengths;
        each_task = h.each_task;
        reads_in_all = h.reads_in_all;
        nodes_in_all = omega (arith, same, h.nodes_in_all);
        work_in_all = h.work_in_all;
        prints = h.prints;
        channels = h.channels;
        instrs = h.instrs;
        locals = h.locals;
        reads = h.reads;
        writes = h.writes;
        nodes = omega (arith, same, h.nodes);
        shallow = ended_shallow s.nest.outer s.nest.current h.shallow;
      }

  limit_end : s.stage ≡ stages.Code → length s.nest.outer ≡ 0 → passed_limit s End ≡ None → AreWithin (advance s End)
  unfolding advance passed_limit
  limit_end at none k =
      let work = code_work (tree_of_ops s.nest.current) in
      let first = passed (nat_le work WORK) quantities.Work (unless (nat_le (all_work s.tasks + work) ALL_WORK) quantities.AllWork None) k in
      let second = passed (nat_le (all_work s.tasks + work) ALL_WORK) quantities.AllWork None first.1 in
      let task : RawTask = record { locals = s.locals; reads = s.reads; writes = s.writes; code = s.nest.current } in
      record {
        processors = h.processors;
        some = λ e. absurd (omega (arith, e));
        tasks = omega (arith, length_more s.tasks task, h.room (ap is_open at));
        room = λ e. absurd cc;
        datums = h.datums;
        lengths = h.lengths;
        each_task = All-push IsTaskWithinLimits s.tasks task h.each_task (ended_task s h none (leb-true work WORK first.0));
        reads_in_all = omega (arith, sum_more (λ (t : RawTask). length t.reads) s.tasks task, h.reads_in_all);
        nodes_in_all = omega (arith, no_nodes, sum_more (λ (t : RawTask). code_nodes (tree_of t)) s.tasks task, h.nodes_in_all);
        work_in_all = omega (arith, sum_more (λ (t : RawTask). code_work (tree_of t)) s.tasks task, leb-true (all_work s.tasks + work) ALL_WORK second.0);
        prints = h.prints;
        channels = h.channels;
        instrs = h.instrs;
        locals = h.locals;
        reads = omega arith;
        writes = omega arith;
        nodes = omega arith;
        shallow = (omega arith, omega arith);
      }

  limit_print : (d : ℕ) → passed_limit s (Print d) ≡ None → AreWithin (advance s (Print d))
  unfolding advance passed_limit
  limit_print d k =
      let first = passed (nat_lt (length s.prints) PRINTS) quantities.Prints None k in
      record {
        processors = h.processors;
        some = λ e. absurd (omega (arith, e));
        tasks = h.tasks;
        room = λ e. absurd cc;
        datums = h.datums;
        lengths = h.lengths;
        each_task = h.each_task;
        reads_in_all = h.reads_in_all;
        nodes_in_all = h.nodes_in_all;
        work_in_all = h.work_in_all;
        prints = omega (arith, length_more s.prints d, ltb-true (length s.prints) PRINTS first.0);
        channels = h.channels;
        instrs = h.instrs;
        locals = h.locals;
        reads = h.reads;
        writes = h.writes;
        nodes = h.nodes;
        shallow = h.shallow;
      }

  limit_channel : (c : RawChannel) → passed_limit s (Channel c) ≡ None → AreWithin (advance s (Channel c))
  unfolding advance passed_limit
  limit_channel c k =
      let first = passed (nat_lt (length s.channels) CHANNELS) quantities.Channels None k in
      record {
        processors = h.processors;
        some = λ e. absurd (omega (arith, e));
        tasks = h.tasks;
        room = λ e. absurd cc;
        datums = h.datums;
        lengths = h.lengths;
        each_task = h.each_task;
        reads_in_all = h.reads_in_all;
        nodes_in_all = h.nodes_in_all;
        work_in_all = h.work_in_all;
        prints = h.prints;
        channels = omega (arith, length_more s.channels c, ltb-true (length s.channels) CHANNELS first.0);
        instrs = h.instrs;
        locals = h.locals;
        reads = h.reads;
        writes = h.writes;
        nodes = h.nodes;
        shallow = h.shallow;
      }

  same_count : (t : Bool) → sum_by length (cond t s.code (s.code ++ s.instrs ∷ [])) + length (cond t s.instrs []) ≡ instr_count s
  same_count true = refl
  same_count false = omega (arith, sum_more length s.code s.instrs)

  limit_processor : (p : ℕ) → AreWithin (advance s (Processor p))
  unfolding advance
  limit_processor p = record {
    processors = h.processors;
    some = λ e. absurd (omega (arith, e));
    tasks = h.tasks;
    room = λ e. absurd cc;
    datums = h.datums;
    lengths = h.lengths;
    each_task = h.each_task;
    reads_in_all = h.reads_in_all;
    nodes_in_all = h.nodes_in_all;
    work_in_all = h.work_in_all;
    prints = h.prints;
    channels = h.channels;
    instrs = omega (arith, same_count (s.begun == 0), h.instrs);
    locals = h.locals;
    reads = h.reads;
    writes = h.writes;
    nodes = h.nodes;
    shallow = h.shallow;
  }

  limit_instr : (instr : RawInstr) → passed_limit s (Instr instr) ≡ None → AreWithin (advance s (Instr instr))
  unfolding advance passed_limit
  limit_instr instr k =
      let first = passed (nat_lt (instr_count s) INSTRUCTIONS) quantities.Instructions None k in
      record {
        processors = h.processors;
        some = λ e. absurd (omega (arith, e));
        tasks = h.tasks;
        room = λ e. absurd cc;
        datums = h.datums;
        lengths = h.lengths;
        each_task = h.each_task;
        reads_in_all = h.reads_in_all;
        nodes_in_all = h.nodes_in_all;
        work_in_all = h.work_in_all;
        prints = h.prints;
        channels = h.channels;
        instrs = omega (arith, length_more s.instrs instr, ltb-true (instr_count s) INSTRUCTIONS first.0);
        locals = h.locals;
        reads = h.reads;
        writes = h.writes;
        nodes = h.nodes;
        shallow = h.shallow;
      }

  limit_stop : AreWithin (advance s Stop)
  unfolding advance
  limit_stop = record {
    processors = h.processors;
    some = λ e. omega (arith, length_more s.code s.instrs);
    tasks = h.tasks;
    room = λ e. absurd cc;
    datums = h.datums;
    lengths = h.lengths;
    each_task = h.each_task;
    reads_in_all = h.reads_in_all;
    nodes_in_all = h.nodes_in_all;
    work_in_all = h.work_in_all;
    prints = h.prints;
    channels = h.channels;
    instrs = omega (arith, sum_more length s.code s.instrs, h.instrs);
    locals = h.locals;
    reads = h.reads;
    writes = h.writes;
    nodes = h.nodes;
    shallow = h.shallow;
  }

-- one line more
pub within_step : (s : Said) (l : Line) → AreWithin s → may_stand s l ≡ true → passed_limit s l ≡ None → AreWithin (advance s l)
within_step s Pyrros h f k = limit_pyrros s h
within_step s (Processors count) h f k = limit_processors s h count k
within_step s (Datum name words) h f k = limit_datum s h name words k
within_step s (Task locals) h f k = limit_task s h locals k
within_step s (Reads datums) h f k = limit_reads s h datums (at_begun s.stage f) k
within_step s (Writes datums) h f k = limit_writes s h datums (at_reads s.stage f) k
within_step s (Plain op) h f k = limit_plain s h op (at_code s.stage f) k
within_step s (Loop local count) h f k = limit_loop s h local count (at_code s.stage f) k
within_step s Done h f k = limit_done s h (at_code s.stage (both (is_code s.stage) (nat_lt 0 (length s.nest.outer)) f).0)
within_step s End h f k =
    let parts = both (is_code s.stage) (length s.nest.outer == 0) f in
    limit_end s h (at_code s.stage parts.0) (eqb-true (length s.nest.outer) 0 parts.1) k
within_step s (Print d) h f k = limit_print s h d k
within_step s (Channel c) h f k = limit_channel s h c k
within_step s (Processor p) h f k = limit_processor s h p
within_step s (Instr instr) h f k = limit_instr s h instr k
within_step s Stop h f k = limit_stop s h

-- what was said to its end is within the limits
pub within_end : (s : Said) → AreWithin s → s.stage ≡ stages.Stopped → s.processors ≡ length s.code → IsWithinLimits (raw_said s)
within_end s h e count = record {
  least_processors = h.some (ap rank e);
  processors = omega (arith, count, h.processors);
  tasks = h.tasks;
  datums = h.datums;
  lengths = h.lengths;
  each_task = h.each_task;
  all_reads = omega (arith, h.reads_in_all);
  all_nodes = omega (arith, h.nodes_in_all);
  all_work = h.work_in_all;
  prints = h.prints;
  channels = h.channels;
  instructions = omega (arith, h.instrs);
}
