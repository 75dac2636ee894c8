-- Every text of a bundle is made of fine lines.
use Rattle.std.proofs.Common.{◌≡◌, ℕ, ◌+◌, ◌<◌, ◌≤◌, ◌^◌, Bool, true, false, cond, ◌&&◌, List, [], ◌∷◌, ◌++◌, map, length, All, Option, None, refl, sym, ap, subst, ◌∙◌, arith}
use Rattle.std.specs.Prelude.{◌==◌, nat_lt, nat_le, sum_by}
use Rattle.std.specs.List.{flat_map, AllByRecursion}
use Rattle.std.proofs.lemmas.Bool.{lt-ltb, le-leb, and_from}
use Rattle.std.proofs.lemmas.Bool.Decides.{nat_tests}
use Rattle.std.proofs.lemmas.List.{append_assoc, append-nil, length-append}
use Rattle.std.proofs.lemmas.List.Elements.{All-head, All-tail}
use Rattle.std.proofs.lemmas.List.Sums.{sum_by-append, sum_by-cons}
use Rattle.std.proofs.lemmas.List.Concat.{flat_map-cons}
use Rattle.pyr_num.specs.declared.limits.Quantity.{Quantity}
use Rattle.pyr_num.specs.declared.limits.Quantity.TheVariants as quantities
use Rattle.pyr_num.specs.declared.limits.TheConstants.Limits.{LEAST_PROCESSORS, PROCESSORS, TASKS, DATUMS, LEAST_LENGTH, LENGTH, READS, ALL_READS, WRITES, NODES, ALL_NODES, LOOPS, COUNT, LOCALS, WORK, ALL_WORK, PRINTS, CHANNELS, INSTRUCTIONS}
use Rattle.pyr_num.specs.Name.{is_name}
use Rattle.pyr_code.specs.declared.op.Op.{Op as OpValue}
use Rattle.pyr_code.specs.declared.op.Op.TheVariants as ops
use Rattle.pyr_code.specs.declared.op.Op.TheOpen.{Op-F, Push as PushF, Load as LoadF, Store as StoreF, Frame as FrameF, Get as GetF, Put as PutF, Bin as BinF, Sel as SelF, Loop as LoopF}
use Rattle.pyr_code.specs.declared.op.Op.TheFolds.{ind-Op}
use Rattle.pyr_code.specs.declared.op.Op.TheVariants.{rolls-Push, rolls-Load, rolls-Store, rolls-Frame, rolls-Get, rolls-Put, rolls-Bin, rolls-Sel, rolls-Loop}
use Rattle.pyr_code.specs.declared.op.Op.{map-Op}
use Rattle.pyr_code.specs.declared.op.Op.TheViews.{roll-Op}
use Rattle.pyr_code.specs.Tree.{Op}
use Rattle.pyr_code.specs.Tree as tree
use Rattle.pyr_code.specs.Seen.{op_of, code_of as tree_of_ops}
use Rattle.pyr_code.specs.Size.{op_nodes, code_nodes, op_loops, code_loops, op_count, code_count, code_work}
use Rattle.pyr_code.proofs.SeenLemmas.{op_of-Loop}
use Rattle.pyr_bundle.specs.Raw.{IsTaskWithinLimits, IsWithinLimits, tree_of}
use Rattle.pyr_bundle.specs.declared.raw_bundle.RawBundle.{RawBundle}
use Rattle.pyr_bundle.specs.declared.raw_datum.RawDatum.{RawDatum}
use Rattle.pyr_bundle.specs.declared.raw_task.RawTask.{RawTask}
use Rattle.pyr_bundle.specs.declared.raw_channel.RawChannel.{RawChannel}
use Rattle.pyr_bundle.specs.declared.raw_instr.RawInstr.{RawInstr}
use Rattle.pyr_bundle.specs.declared.raw_instr.RawInstr.TheVariants as instrs
use Rattle.pyr_bundletext.specs.declared.plain_op.PlainOp.{PlainOp}
use Rattle.pyr_bundletext.specs.declared.plain_op.PlainOp.TheVariants as plain
use Rattle.pyr_bundletext.specs.declared.open_loop.OpenLoop.{OpenLoop}
use Rattle.pyr_bundletext.specs.declared.line.Line.{Line}
use Rattle.pyr_bundletext.specs.declared.line.Line.TheVariants.{Pyrros, Processors, Datum, Task, Reads, Writes, Plain, Loop, Done, End, Print, Channel, Processor, Instr, Stop}
use Rattle.pyr_bundletext.specs.declared.stage.Stage.{Stage}
use Rattle.pyr_bundletext.specs.declared.stage.Stage.TheVariants as stages
use Rattle.pyr_bundletext.specs.Text.{op_text, code_text, datum_text, task_text, print_text, channel_text, instr_text, processors_text, text_of}
use Rattle.pyr_bundletext.specs.Line.{IsLine, AreWords, line_text, text_said, op_numbers, instr_numbers}
use Rattle.pyr_bundletext.specs.Spelled.{IsWord, IsSpelledOp, IsSpelledCode, IsSpelledTask, IsSpelledChannel, IsSpelledInstr, IsSpelled}
use Rattle.pyr_bundletext.specs.Earlier.{Said, Nest, no_code, plain_op, with_op, with_loop, said_by, raw_said, stage_of}
use Rattle.pyr_bundletext.specs.Faults.{may_stand, passed_limit, unless, nodes_in, all_reads, all_nodes, all_work, has_tasks, has_prints, has_channels, has_processors}
use Rattle.pyr_bundletext.specs.Tells.{advance}
use Rattle.pyr_bundletext.specs.Answer.{AreFine}
use Rattle.pyr_bundletext.proofs.CodeLemmas.{nodes_more, plain_tree, plain_seen}
use Rattle.pyr_bundletext.proofs.TextLemmas.{plain_line, loop_text, instr_line, re3, re5}
use Rattle.pyr_bundletext.proofs.ReadingLemmas.{said_more}

-- lines that say this, with this text
pub record Reaches (s : Said) (text : List ℕ) : Type 0 where
  pub said : List Line
  pub fine : AreFine said
  pub is_said : said_by said ≡ s
  pub text_is : text_said said ≡ text

go_on : (s : Said) (text : List ℕ) (l : Line) → IsLine l → may_stand s l ≡ true → passed_limit s l ≡ None → Reaches s text
    → Reaches (advance s l) (text ++ line_text l)
go_on s text l is stands limits r = record {
  said = l ∷ r.said;
  fine = (
    r.fine,
    record {
      is_line = is;
      stands = subst (λ (x : Said). may_stand x l ≡ true) (sym r.is_said) stands;
      limits = subst (λ (x : Said). passed_limit x l ≡ None) (sym r.is_said) limits;
    },
  );
  is_said = said_more l r.said ∙ ap (λ (x : Said). advance x l) r.is_said;
  text_is = ap (λ (t : List ℕ). t ++ line_text l) r.text_is;
}

-- a test that passes, and the others behind it
pass : (t : Bool) (which : Quantity) (others : Option Quantity) → t ≡ true → others ≡ None → unless t which others ≡ None
pass t which others h k = rw h k

below : (a b : ℕ) → a < b → nat_lt a b ≡ true
below a b h = lt-ltb a b h

up_to : (a b : ℕ) → a ≤ b → nat_le a b ≡ true
up_to a b h = le-leb a b h

-- induction over ops

all_claimed : (P : OpValue → Type 0) (pairs : List ((op : OpValue) × P op)) → AllByRecursion P (map (λ e. e.0) pairs)
all_claimed P [] = tt
all_claimed P (e ∷ pairs) = (e.1, all_claimed P pairs)

module _ (P : OpValue → Type 0) (for_plain : (op : PlainOp) → P (plain_op op))
    (for_loop : (l count : ℕ) (turn : List OpValue) → AllByRecursion P turn → P (ops.Loop l count turn)) where
  for_rolled : (y : Op-F ((op : OpValue) × P op)) → P (roll-Op (map-Op ((op : OpValue) × P op) OpValue (λ e. e.0) y))
  for_rolled (PushF word) = subst P (sym (rolls-Push word)) (for_plain (plain.Push word))
  for_rolled (LoadF l) = subst P (sym (rolls-Load l)) (for_plain (plain.Load l))
  for_rolled (StoreF l) = subst P (sym (rolls-Store l)) (for_plain (plain.Store l))
  for_rolled FrameF = subst P (sym rolls-Frame) (for_plain plain.Frame)
  for_rolled (GetF slot) = subst P (sym (rolls-Get slot)) (for_plain (plain.Get slot))
  for_rolled (PutF output) = subst P (sym (rolls-Put output)) (for_plain (plain.Put output))
  for_rolled (BinF operator) = subst P (sym (rolls-Bin operator)) (for_plain (plain.Bin operator))
  for_rolled SelF = subst P (sym rolls-Sel) (for_plain plain.Sel)
  for_rolled (LoopF l count pairs) =
      subst P (sym (rolls-Loop l count (map (λ e. e.0) pairs))) (for_loop l count (map (λ e. e.0) pairs) (all_claimed P pairs))

  for_op : (op : OpValue) → P op
  for_op = ind-Op P (λ x y is. subst (λ z. P (roll-Op z)) is (for_rolled y))

for_ops : (P : OpValue → Type 0) → ((op : OpValue) → P op) → (list : List OpValue) → AllByRecursion P list
for_ops P each [] = tt
for_ops P each (op ∷ list) = (each op, for_ops P each list)

-- code

abbrev in_code : Said → Nest → Said
in_code s nest = record s { stage = stages.Code; nest = nest }

-- so many ops, loops in one another, and turns of a loop fit behind these
record Fits (s : Said) (nest : Nest) (nodes loops count : ℕ) : Type 0 where
  few : nodes_in nest + nodes ≤ NODES
  few_in_all : all_nodes s.tasks + nodes_in nest + nodes ≤ ALL_NODES
  shallow : length nest.outer + loops ≤ LOOPS
  short : count ≤ COUNT

nodes_pass : (s : Said) (nest : Nest) (others : Option Quantity) → nodes_in nest < NODES → all_nodes s.tasks + nodes_in nest < ALL_NODES → others ≡ None
    → unless (nat_lt (nodes_in nest) NODES) quantities.Nodes (unless (nat_lt (all_nodes s.tasks + nodes_in nest) ALL_NODES) quantities.AllNodes others) ≡ None
nodes_pass s nest others h k e =
    pass (nat_lt (nodes_in nest) NODES) quantities.Nodes (unless (nat_lt (all_nodes s.tasks + nodes_in nest) ALL_NODES) quantities.AllNodes others) (below (nodes_in nest) NODES h)
    (pass (nat_lt (all_nodes s.tasks + nodes_in nest) ALL_NODES) quantities.AllNodes others (below (all_nodes s.tasks + nodes_in nest) ALL_NODES k) e)

nodes_with : (nest : Nest) (op : OpValue) → nodes_in (with_op nest op) ≡ nodes_in nest + op_nodes (op_of op)
nodes_with nest op = omega (arith, nodes_more nest.current op)

tree_words : (op : PlainOp) → IsSpelledOp (plain_tree op) → AreWords (op_numbers op)
tree_words (plain.Push word) h = (h, tt)
tree_words (plain.Load l) h = (h, tt)
tree_words (plain.Store l) h = (h, tt)
tree_words plain.Frame h = tt
tree_words (plain.Get slot) h = (h, tt)
tree_words (plain.Put output) h = (h, tt)
tree_words (plain.Bin operator) h = tt
tree_words plain.Sel h = tt

plain_words : (op : PlainOp) → IsSpelledOp (op_of (plain_op op)) → AreWords (op_numbers op)
plain_words op h = tree_words op (subst IsSpelledOp (plain_seen op) h)

tree_is_node : (op : PlainOp) → op_nodes (plain_tree op) ≡ 1
tree_is_node (plain.Push word) = refl
tree_is_node (plain.Load l) = refl
tree_is_node (plain.Store l) = refl
tree_is_node plain.Frame = refl
tree_is_node (plain.Get slot) = refl
tree_is_node (plain.Put output) = refl
tree_is_node (plain.Bin operator) = refl
tree_is_node plain.Sel = refl

plain_is_node : (op : PlainOp) → op_nodes (op_of (plain_op op)) ≡ 1
plain_is_node op = ap op_nodes (plain_seen op) ∙ tree_is_node op

-- the lines of an op, wherever it stands in code
abbrev IsWritten : OpValue → Type 0
IsWritten op = (s : Said) (nest : Nest) (text : List ℕ)
    → Fits s nest (op_nodes (op_of op)) (op_loops (op_of op)) (op_count (op_of op)) → IsSpelledOp (op_of op)
    → Reaches (in_code s nest) text → Reaches (in_code s (with_op nest op)) (text ++ op_text (op_of op))

plain_written : (op : PlainOp) → IsWritten (plain_op op)
unfolding advance passed_limit
plain_written op s nest text fits spelled r =
    subst (λ (t : List ℕ). Reaches (in_code s (with_op nest (plain_op op))) (text ++ t)) (sym (plain_line op))
    (go_on (in_code s nest) text (Plain op) (record { named = tt; words = plain_words op spelled }) refl
    (nodes_pass s nest None (omega (arith, plain_is_node op, fits.few)) (omega (arith, plain_is_node op, fits.few_in_all)) refl) r)

ops_written : (list : List OpValue) → AllByRecursion IsWritten list → (s : Said) (nest : Nest) (text : List ℕ)
    → Fits s nest (code_nodes (tree_of_ops list)) (code_loops (tree_of_ops list)) (code_count (tree_of_ops list)) → IsSpelledCode (tree_of_ops list)
    → Reaches (in_code s nest) text → Reaches (in_code s (record nest { current = nest.current ++ list })) (text ++ code_text (tree_of_ops list))
ops_written [] each s nest text fits spelled r =
    subst (λ (t : List ℕ). Reaches (in_code s (record nest { current = nest.current ++ [] })) t) (sym (append-nil text))
    (subst (λ (c : List OpValue). Reaches (in_code s (record nest { current = c })) text) (sym (append-nil nest.current)) r)
ops_written (op ∷ list) each s nest text fits spelled r =
    let first = each.0 s nest text (record { few = omega (arith, fits.few); few_in_all = omega (arith, fits.few_in_all); shallow = omega (arith, fits.shallow); short = omega (arith, fits.short) }) spelled.0 r in
    let more = nodes_with nest op in
    let rest = ops_written list each.1 s (with_op nest op) (text ++ op_text (op_of op)) (record { few = omega (arith, more, fits.few); few_in_all = omega (arith, more, fits.few_in_all); shallow = omega (arith, fits.shallow); short = omega (arith, fits.short) }) spelled.1 first in
    subst (λ (t : List ℕ). Reaches (in_code s (record nest { current = nest.current ++ op ∷ list })) t) (append_assoc text (op_text (op_of op)) (code_text (tree_of_ops list)))
    (subst (λ (c : List OpValue). Reaches (in_code s (record nest { current = c })) (text ++ op_text (op_of op) ++ code_text (tree_of_ops list))) (append_assoc nest.current (op ∷ []) list) rest)

loop_written : (l count : ℕ) (turn : List OpValue) → AllByRecursion IsWritten turn → IsWritten (ops.Loop l count turn)
unfolding advance passed_limit
loop_written l count turn each s nest text fits spelled r =
    let seen : op_of (ops.Loop l count turn) ≡ tree.Loop l count (tree_of_ops turn) = op_of-Loop l count turn in
    let words : IsWord l × IsWord count × IsSpelledCode (tree_of_ops turn) = subst IsSpelledOp seen spelled in
    let nodes = ap op_nodes seen in
    let loops = ap op_loops seen in
    let counts = ap op_count seen in
    let begin = line_text (Loop l count) in
    let fits_count : nat_le count COUNT ≡ true = up_to count COUNT (omega (arith, counts, fits.short)) in
    let fits_loops : nat_lt (length nest.outer) LOOPS ≡ true = below (length nest.outer) LOOPS (omega (arith, loops, fits.shallow)) in
    let opened : Reaches (in_code s (with_loop nest l count)) (text ++ begin) =
    go_on (in_code s nest) text (Loop l count) (record { named = tt; words = (words.0, (words.1, tt)) }) refl
    (nodes_pass s nest (unless (nat_lt (length nest.outer) LOOPS) quantities.Loops (unless (nat_le count COUNT) quantities.Count None)) (omega (arith, nodes, fits.few)) (omega (arith, nodes, fits.few_in_all))
    (pass (nat_lt (length nest.outer) LOOPS) quantities.Loops (unless (nat_le count COUNT) quantities.Count None) fits_loops (pass (nat_le count COUNT) quantities.Count None fits_count refl))) r in
    let around = sum_by-cons (λ (o : OpenLoop). code_nodes (tree_of_ops o.before) + 1) (record { before = nest.current; local = l; count = count }) nest.outer in
    let turned = ops_written turn each s (with_loop nest l count) (text ++ begin) (record {
      few = omega (arith, around, nodes, fits.few);
      few_in_all = omega (arith, around, nodes, fits.few_in_all);
      shallow = omega (arith, loops, fits.shallow);
      short = omega (arith, counts, fits.short);
    }) words.2 opened in
    let closed = go_on (in_code s (record (with_loop nest l count) { current = turn })) (text ++ begin ++ code_text (tree_of_ops turn)) Done (record { named = tt; words = tt })
    (below 0 (length (with_loop nest l count).outer) (omega arith)) refl turned in
    subst (λ (t : List ℕ). Reaches (in_code s (with_op nest (ops.Loop l count turn))) t)
    (re3 text begin (code_text (tree_of_ops turn)) (line_text Done) ∙ ap (λ (t : List ℕ). text ++ t) (sym (loop_text (record { before = nest.current; local = l; count = count }) turn))) closed

op_written : (op : OpValue) → IsWritten op
op_written = for_op IsWritten plain_written loop_written

pub code_written : (list : List OpValue) (s : Said) (text : List ℕ)
    → code_nodes (tree_of_ops list) ≤ NODES → all_nodes s.tasks + code_nodes (tree_of_ops list) ≤ ALL_NODES
    → code_loops (tree_of_ops list) ≤ LOOPS → code_count (tree_of_ops list) ≤ COUNT → IsSpelledCode (tree_of_ops list)
    → Reaches (in_code s no_code) text → Reaches (in_code s (record { outer = []; current = list })) (text ++ code_text (tree_of_ops list))
code_written list s text few few_in_all shallow short spelled r =
    ops_written list (for_ops IsWritten op_written list) s no_code text (record { few = omega (arith, few); few_in_all = omega (arith, few_in_all); shallow = omega (arith, shallow); short = short }) spelled r

-- a task

-- what is said with a task more
abbrev after_task : Said → RawTask → Said
after_task s t = record s {
  stage = stages.Tasks;
  tasks = s.tasks ++ t ∷ [];
  locals = t.locals;
  reads = [];
  writes = [];
  nest = no_code;
}

task_written : (t : RawTask) (s : Said) (text : List ℕ) → has_tasks s.stage ≡ true → IsTaskWithinLimits t → IsSpelledTask t
    → length s.tasks < TASKS → all_reads s.tasks + length t.reads ≤ ALL_READS → all_nodes s.tasks + code_nodes (tree_of t) ≤ ALL_NODES
    → all_work s.tasks + code_work (tree_of t) ≤ ALL_WORK → Reaches s text → Reaches (after_task s t) (text ++ task_text t)
unfolding advance passed_limit
task_written t s text stands limits spelled few few_reads few_nodes little_work r =
    let begun = record s { stage = stages.TaskBegun; locals = t.locals } in
    let reading = record begun { stage = stages.TaskReads; reads = t.reads } in
    let writing = record reading { writes = t.writes } in
    let small : t.locals < 2 ^ 64 = omega (arith, limits.code.locals) in
    let task : List ℕ = line_text (Task t.locals) in
    let reads : List ℕ = line_text (Reads t.reads) in
    let writes : List ℕ = line_text (Writes t.writes) in
    let r1 : Reaches begun (text ++ task) = go_on s text (Task t.locals) (record { named = tt; words = (small, tt) }) stands
    (pass (nat_lt (length s.tasks) TASKS) quantities.Tasks (unless (nat_le t.locals LOCALS) quantities.Locals None) (below (length s.tasks) TASKS few)
    (pass (nat_le t.locals LOCALS) quantities.Locals None (up_to t.locals LOCALS limits.code.locals) refl)) r in
    let r2 : Reaches reading (text ++ task ++ reads) = go_on begun (text ++ task) (Reads t.reads) (record { named = tt; words = spelled.reads }) refl
    (pass (nat_le (length t.reads) READS) quantities.Reads (unless (nat_le (all_reads s.tasks + length t.reads) ALL_READS) quantities.AllReads None) (up_to (length t.reads) READS limits.reads)
    (pass (nat_le (all_reads s.tasks + length t.reads) ALL_READS) quantities.AllReads None (up_to (all_reads s.tasks + length t.reads) ALL_READS few_reads) refl)) r1 in
    let r3 : Reaches (in_code writing no_code) (text ++ task ++ reads ++ writes) = go_on reading (text ++ task ++ reads) (Writes t.writes) (record { named = tt; words = spelled.writes }) refl
    (pass (nat_le (length t.writes) WRITES) quantities.Writes None (up_to (length t.writes) WRITES limits.writes) refl) r2 in
    let r4 = code_written t.code writing (text ++ task ++ reads ++ writes) limits.code.nodes few_nodes limits.code.loops limits.code.count spelled.code r3 in
    let r5 = go_on (in_code writing (record { outer = []; current = t.code })) (text ++ task ++ reads ++ writes ++ code_text (tree_of t)) End (record { named = tt; words = tt }) refl
    (pass (nat_le (code_work (tree_of t)) WORK) quantities.Work (unless (nat_le (all_work s.tasks + code_work (tree_of t)) ALL_WORK) quantities.AllWork None) (up_to (code_work (tree_of t)) WORK limits.code.work)
    (pass (nat_le (all_work s.tasks + code_work (tree_of t)) ALL_WORK) quantities.AllWork None (up_to (all_work s.tasks + code_work (tree_of t)) ALL_WORK little_work) refl)) r4 in
    subst (λ (x : List ℕ). Reaches (after_task s t) x) (re5 text task reads writes (code_text (tree_of t)) (line_text End)) r5

-- lists one after another

part_length : {X : Type 0} (front rest : List X) (x : X) (all : List X) → front ++ x ∷ rest ≡ all → length front + 1 ≤ length all
part_length front rest x all e = omega (arith, ap length e, length-append front (x ∷ rest))

part_sum : {X : Type 0} (f : X → ℕ) (front rest : List X) (x : X) (all : List X) → front ++ x ∷ rest ≡ all → sum_by f front + f x ≤ sum_by f all
part_sum f front rest x all e =
    omega (arith, ap (sum_by f) e, sum_by-append f front (x ∷ rest), sum_by-cons f x rest)

push_on : {X : Type 0} (front rest : List X) (x : X) (all : List X) → front ++ x ∷ rest ≡ all → (front ++ x ∷ []) ++ rest ≡ all
push_on front rest x all e = append_assoc front (x ∷ []) rest ∙ e

-- what may stand behind one section may stand in the next

prints_may : (st : Stage) → has_tasks st ≡ true → has_prints st ≡ true
prints_may stages.Start f = absurd cc
prints_may stages.Versioned f = absurd cc
prints_may stages.Data f = refl
prints_may stages.TaskBegun f = absurd cc
prints_may stages.TaskReads f = absurd cc
prints_may stages.Code f = absurd cc
prints_may stages.Tasks f = refl
prints_may stages.Prints f = absurd cc
prints_may stages.Channels f = absurd cc
prints_may stages.Processor f = absurd cc
prints_may stages.Stopped f = absurd cc

channels_may : (st : Stage) → has_prints st ≡ true → has_channels st ≡ true
channels_may stages.Start f = absurd cc
channels_may stages.Versioned f = absurd cc
channels_may stages.Data f = refl
channels_may stages.TaskBegun f = absurd cc
channels_may stages.TaskReads f = absurd cc
channels_may stages.Code f = absurd cc
channels_may stages.Tasks f = refl
channels_may stages.Prints f = refl
channels_may stages.Channels f = absurd cc
channels_may stages.Processor f = absurd cc
channels_may stages.Stopped f = absurd cc

processors_may : (st : Stage) → has_channels st ≡ true → has_processors st ≡ true
processors_may stages.Start f = absurd cc
processors_may stages.Versioned f = absurd cc
processors_may stages.Data f = refl
processors_may stages.TaskBegun f = absurd cc
processors_may stages.TaskReads f = absurd cc
processors_may stages.Code f = absurd cc
processors_may stages.Tasks f = refl
processors_may stages.Prints f = refl
processors_may stages.Channels f = refl
processors_may stages.Processor f = absurd cc
processors_may stages.Stopped f = absurd cc

module _ (raw : RawBundle) (limits : IsWithinLimits raw) (spelled : IsSpelled raw) where
  -- the data
  abbrev with_data : List RawDatum → Said
  with_data datums = record {
    stage = stages.Data;
    processors = length raw.code;
    datums = datums;
    tasks = [];
    locals = 0;
    reads = [];
    writes = [];
    nest = no_code;
    prints = [];
    channels = [];
    begun = 0;
    code = [];
    instrs = [];
  }

  header_written : Reaches (with_data []) (line_text Pyrros ++ line_text (Processors (length raw.code)))
  unfolding advance passed_limit
  header_written =
      let start : Reaches (said_by []) [] = record { said = []; fine = tt; is_said = refl; text_is = refl } in
      let count = length raw.code in
      let r1 = go_on (said_by []) [] Pyrros (record { named = tt; words = (omega arith, tt) }) refl refl start in
      go_on (record (said_by []) { stage = stages.Versioned }) (line_text Pyrros) (Processors count) (record { named = tt; words = (omega (arith, limits.processors), tt) }) refl
      (pass (nat_le LEAST_PROCESSORS count && nat_le count PROCESSORS) quantities.Processors None
      (and_from (nat_le LEAST_PROCESSORS count) (nat_le count PROCESSORS) (up_to LEAST_PROCESSORS count limits.least_processors) (up_to count PROCESSORS limits.processors)) refl) r1

  data_written : (rest front : List RawDatum) (text : List ℕ) → front ++ rest ≡ raw.datums
      → All (λ d. (LEAST_LENGTH ≤ d.length) × (d.length ≤ LENGTH)) rest → AllByRecursion (λ d. is_name d.name ≡ true) rest
      → Reaches (with_data front) text → Reaches (with_data raw.datums) (text ++ flat_map datum_text rest)
  unfolding advance passed_limit
  data_written [] front text e lengths names r =
      subst (λ (t : List ℕ). Reaches (with_data raw.datums) t) (sym (append-nil text))
      (subst (λ (ds : List RawDatum). Reaches (with_data ds) text) (sym (append-nil front) ∙ e) r)
  data_written (d ∷ rest) front text e lengths names r =
      let size = All-head (λ (x : RawDatum). (LEAST_LENGTH ≤ x.length) × (x.length ≤ LENGTH)) d rest lengths in
      let step = go_on (with_data front) text (Datum d.name d.length) (record { named = names.0; words = (omega (arith, size.1), tt) }) refl
      (pass (nat_lt (length front) DATUMS) quantities.Datums (unless (nat_le LEAST_LENGTH d.length && nat_le d.length LENGTH) quantities.Length None)
      (below (length front) DATUMS (omega (arith, part_length front rest d raw.datums e, limits.datums)))
      (pass (nat_le LEAST_LENGTH d.length && nat_le d.length LENGTH) quantities.Length None
      (and_from (nat_le LEAST_LENGTH d.length) (nat_le d.length LENGTH) (up_to LEAST_LENGTH d.length size.0) (up_to d.length LENGTH size.1)) refl)) r in
      let more = data_written rest (front ++ d ∷ []) (text ++ datum_text d) (push_on front rest d raw.datums e)
      (All-tail (λ (x : RawDatum). (LEAST_LENGTH ≤ x.length) × (x.length ≤ LENGTH)) d rest lengths) names.1 step in
      subst (λ (t : List ℕ). Reaches (with_data raw.datums) t)
      (append_assoc text (datum_text d) (flat_map datum_text rest) ∙ ap (λ (t : List ℕ). text ++ t) (sym (flat_map-cons datum_text d rest))) more

  -- the tasks
  abbrev with_tasks : Stage → ℕ → List RawTask → Said
  with_tasks stage locals tasks =
      record (with_data raw.datums) { stage = stage; locals = locals; tasks = tasks }

  pub record AfterTasks (text : List ℕ) : Type 0 where
    pub stage : Stage
    pub locals : ℕ
    pub stands : has_tasks stage ≡ true
    pub reached : Reaches (with_tasks stage locals raw.tasks) text

  tasks_written : (rest front : List RawTask) (stage : Stage) (locals : ℕ) (text : List ℕ) → front ++ rest ≡ raw.tasks → has_tasks stage ≡ true
      → All IsTaskWithinLimits rest → AllByRecursion IsSpelledTask rest → Reaches (with_tasks stage locals front) text
      → AfterTasks (text ++ flat_map task_text rest)
  tasks_written [] front stage locals text e stands fit words r = record {
    stage = stage;
    locals = locals;
    stands = stands;
    reached =
        subst (λ (t : List ℕ). Reaches (with_tasks stage locals raw.tasks) t) (sym (append-nil text))
        (subst (λ (ts : List RawTask). Reaches (with_tasks stage locals ts) text) (sym (append-nil front) ∙ e) r);
  }
  tasks_written (t ∷ rest) front stage locals text e stands fit words r =
      let step = task_written t (with_tasks stage locals front) text stands (All-head IsTaskWithinLimits t rest fit) words.0
      (omega (arith, part_length front rest t raw.tasks e, limits.tasks))
      (omega (arith, part_sum (λ (x : RawTask). length x.reads) front rest t raw.tasks e, limits.all_reads))
      (omega (arith, part_sum (λ (x : RawTask). code_nodes (tree_of x)) front rest t raw.tasks e, limits.all_nodes))
      (omega (arith, part_sum (λ (x : RawTask). code_work (tree_of x)) front rest t raw.tasks e, limits.all_work)) r in
      let more = tasks_written rest (front ++ t ∷ []) stages.Tasks t.locals (text ++ task_text t) (push_on front rest t raw.tasks e) refl
      (All-tail IsTaskWithinLimits t rest fit) words.1 step in
      subst AfterTasks
      (append_assoc text (task_text t) (flat_map task_text rest) ∙ ap (λ (x : List ℕ). text ++ x) (sym (flat_map-cons task_text t rest))) more

  -- the printed data
  abbrev with_prints : Stage → ℕ → List ℕ → Said
  with_prints stage locals prints = record (with_tasks stage locals raw.tasks) { prints = prints }

  pub record AfterPrints (locals : ℕ) (text : List ℕ) : Type 0 where
    pub stage : Stage
    pub stands : has_prints stage ≡ true
    pub reached : Reaches (with_prints stage locals raw.prints) text

  prints_written : (rest front : List ℕ) (stage : Stage) (locals : ℕ) (text : List ℕ) → front ++ rest ≡ raw.prints → has_prints stage ≡ true
      → AllByRecursion IsWord rest → Reaches (with_prints stage locals front) text → AfterPrints locals (text ++ flat_map print_text rest)
  unfolding advance passed_limit
  prints_written [] front stage locals text e stands words r = record {
    stage = stage;
    stands = stands;
    reached =
        subst (λ (t : List ℕ). Reaches (with_prints stage locals raw.prints) t) (sym (append-nil text))
        (subst (λ (ds : List ℕ). Reaches (with_prints stage locals ds) text) (sym (append-nil front) ∙ e) r);
  }
  prints_written (d ∷ rest) front stage locals text e stands words r =
      let step = go_on (with_prints stage locals front) text (Print d) (record { named = tt; words = (words.0, tt) }) stands
      (pass (nat_lt (length front) PRINTS) quantities.Prints None (below (length front) PRINTS (omega (arith, part_length front rest d raw.prints e, limits.prints))) refl) r in
      let more = prints_written rest (front ++ d ∷ []) stages.Prints locals (text ++ print_text d) (push_on front rest d raw.prints e) refl words.1 step in
      subst (AfterPrints locals)
      (append_assoc text (print_text d) (flat_map print_text rest) ∙ ap (λ (x : List ℕ). text ++ x) (sym (flat_map-cons print_text d rest))) more

  -- the channels
  abbrev with_channels : Stage → ℕ → List RawChannel → Said
  with_channels stage locals channels =
      record (with_prints stage locals raw.prints) { channels = channels }

  pub record AfterChannels (locals : ℕ) (text : List ℕ) : Type 0 where
    pub stage : Stage
    pub stands : has_channels stage ≡ true
    pub reached : Reaches (with_channels stage locals raw.channels) text

  channels_written : (rest front : List RawChannel) (stage : Stage) (locals : ℕ) (text : List ℕ) → front ++ rest ≡ raw.channels → has_channels stage ≡ true
      → AllByRecursion IsSpelledChannel rest → Reaches (with_channels stage locals front) text → AfterChannels locals (text ++ flat_map channel_text rest)
  unfolding advance passed_limit
  channels_written [] front stage locals text e stands words r = record {
    stage = stage;
    stands = stands;
    reached =
        subst (λ (t : List ℕ). Reaches (with_channels stage locals raw.channels) t) (sym (append-nil text))
        (subst (λ (cs : List RawChannel). Reaches (with_channels stage locals cs) text) (sym (append-nil front) ∙ e) r);
  }
  channels_written (c ∷ rest) front stage locals text e stands words r =
      let step = go_on (with_channels stage locals front) text (Channel c) (record { named = tt; words = (words.0.0, (words.0.1, (words.0.2, tt))) }) stands
      (pass (nat_lt (length front) CHANNELS) quantities.Channels None (below (length front) CHANNELS (omega (arith, part_length front rest c raw.channels e, limits.channels))) refl) r in
      let more = channels_written rest (front ++ c ∷ []) stages.Channels locals (text ++ channel_text c) (push_on front rest c raw.channels e) refl words.1 step in
      subst (AfterChannels locals)
      (append_assoc text (channel_text c) (flat_map channel_text rest) ∙ ap (λ (x : List ℕ). text ++ x) (sym (flat_map-cons channel_text c rest))) more

  -- the instructions
  abbrev running : ℕ → List (List RawInstr) → List RawInstr → Said
  running locals code instrs =
      record (with_channels stages.Processor locals raw.channels) { begun = length code + 1; code = code; instrs = instrs }

  instr_words : (instr : RawInstr) → IsSpelledInstr instr → AreWords (instr_numbers instr)
  instr_words (instrs.Recv from d) h = (h.0, (h.1, tt))
  instr_words (instrs.Exec t) h = (h, tt)
  instr_words (instrs.Send to d) h = (h.0, (h.1, tt))

  instrs_written : (rest front : List RawInstr) (locals : ℕ) (code : List (List RawInstr)) (text : List ℕ)
      → sum_by length code + length front + length rest ≤ INSTRUCTIONS → AllByRecursion IsSpelledInstr rest
      → Reaches (running locals code front) text → Reaches (running locals code (front ++ rest)) (text ++ flat_map instr_text rest)
  unfolding advance passed_limit
  instrs_written [] front locals code text few words r =
      subst (λ (t : List ℕ). Reaches (running locals code (front ++ [])) t) (sym (append-nil text))
      (subst (λ (c : List RawInstr). Reaches (running locals code c) text) (sym (append-nil front)) r)
  instrs_written (i ∷ rest) front locals code text few words r =
      let step = go_on (running locals code front) text (Instr i) (record { named = tt; words = instr_words i words.0 }) refl
      (pass (nat_lt (sum_by length code + length front) INSTRUCTIONS) quantities.Instructions None (below (sum_by length code + length front) INSTRUCTIONS (omega (arith, few))) refl) r in
      let more = instrs_written rest (front ++ i ∷ []) locals code (text ++ line_text (Instr i)) (omega (arith, few, length-append front (i ∷ []))) words.1 step in
      subst (λ (c : List RawInstr). Reaches (running locals code c) (text ++ flat_map instr_text (i ∷ rest))) (append_assoc front (i ∷ []) rest)
      (subst (λ (t : List ℕ). Reaches (running locals code ((front ++ i ∷ []) ++ rest)) t)
      (append_assoc text (line_text (Instr i)) (flat_map instr_text rest) ∙ ap (λ (x : List ℕ). text ++ (x ++ flat_map instr_text rest)) (instr_line i)
      ∙ ap (λ (x : List ℕ). text ++ x) (sym (flat_map-cons instr_text i rest))) more)

  -- what is said in the end
  abbrev whole : ℕ → Said
  whole locals = record (with_channels stages.Stopped locals raw.channels) { begun = length raw.code; code = raw.code; instrs = [] }

  some_begun : (n : ℕ) → (n + 1 == 0) ≡ false
  some_begun n = grind (arith, nat_tests)

  begun_again : (n : ℕ) → (n == n) ≡ true
  begun_again n = grind (arith, nat_tests)

  processors_written : (rest front : List (List RawInstr)) (last : List RawInstr) (locals : ℕ) (text : List ℕ) → front ++ last ∷ rest ≡ raw.code
      → AllByRecursion (AllByRecursion IsSpelledInstr) rest → Reaches (running locals front last) text
      → Reaches (whole locals) (text ++ processors_text (length front + 1) rest ++ line_text Stop)
  unfolding advance passed_limit
  processors_written [] front last locals text e words r =
      let count : length front + 1 ≡ length raw.code = sym (length-append front (last ∷ [])) ∙ ap length e in
      let stop : Reaches (record (with_channels stages.Stopped locals raw.channels) { begun = length front + 1; code = front ++ last ∷ []; instrs = [] }) (text ++ line_text Stop) =
      go_on (running locals front last) text Stop (record { named = tt; words = tt }) (subst (λ (n : ℕ). (length front + 1 == n) ≡ true) count (begun_again (length front + 1))) refl r in
      subst (λ (t : List ℕ). Reaches (whole locals) (t ++ line_text Stop)) (sym (append-nil text))
      (subst (λ (n : ℕ). Reaches (record (whole locals) { begun = n }) (text ++ line_text Stop)) count
      (subst (λ (c : List (List RawInstr)). Reaches (record (with_channels stages.Stopped locals raw.channels) { begun = length front + 1; code = c; instrs = [] }) (text ++ line_text Stop)) e stop))
  processors_written (c ∷ rest) front last locals text e words r =
      let p = length front + 1 in
      let closed : List (List RawInstr) = front ++ last ∷ [] in
      let length_is : length closed ≡ p = length-append front (last ∷ []) in
      let all : closed ++ c ∷ rest ≡ raw.code = append_assoc front (last ∷ []) (c ∷ rest) ∙ e in
      let few : p < length raw.code = omega (arith, length_is, part_length closed rest c raw.code all) in
      let stands : ((p == p) && nat_lt p (length raw.code)) ≡ true = and_from (p == p) (nat_lt p (length raw.code)) (begun_again p) (below p (length raw.code) few) in
      let begin = go_on (running locals front last) text (Processor p) (record { named = tt; words = (omega (arith, few, limits.processors), tt) }) stands refl r in
      let begun : Reaches (running locals closed []) (text ++ line_text (Processor p)) =
      subst (λ (n : ℕ). Reaches (record (running locals closed []) { begun = n + 1 }) (text ++ line_text (Processor p))) (sym length_is)
      (subst (λ (b : Bool). Reaches (record (running locals front last) { begun = p + 1; code = cond b front closed; instrs = cond b last [] }) (text ++ line_text (Processor p))) (some_begun (length front)) begin) in
      let filled = instrs_written c [] locals closed (text ++ line_text (Processor p)) (omega (arith, part_sum length closed rest c raw.code all, limits.instructions)) words.0 begun in
      let more = processors_written rest closed c locals (text ++ line_text (Processor p) ++ flat_map instr_text c) all words.1 filled in
      subst (λ (t : List ℕ). Reaches (whole locals) (t ++ line_text Stop))
      (ap (λ (n : ℕ). text ++ line_text (Processor p) ++ flat_map instr_text c ++ processors_text (n + 1) rest) length_is
      ∙ re3 text (line_text (Processor p)) (flat_map instr_text c) (processors_text (p + 1) rest)) more

  first_written : (codes : List (List RawInstr)) (stage : Stage) (locals : ℕ) (text : List ℕ) → codes ≡ raw.code → has_channels stage ≡ true
      → AllByRecursion (AllByRecursion IsSpelledInstr) codes → Reaches (with_channels stage locals raw.channels) text
      → Reaches (whole locals) (text ++ processors_text 0 codes ++ line_text Stop)
  unfolding advance passed_limit
  first_written [] stage locals text e stands words r =
      absurd (let none : 0 ≡ length raw.code = ap length e in omega (arith, none, limits.least_processors))
  first_written (c ∷ rest) stage locals text e stands words r =
      let some : 0 < length raw.code = omega (arith, limits.least_processors) in
      let may : (has_processors stage && (0 == 0) && nat_lt 0 (length raw.code)) ≡ true =
      and_from (has_processors stage && (0 == 0)) (nat_lt 0 (length raw.code)) (and_from (has_processors stage) (0 == 0) (processors_may stage stands) refl) (below 0 (length raw.code) some) in
      let begun = go_on (with_channels stage locals raw.channels) text (Processor 0) (record { named = tt; words = (omega arith, tt) }) may refl r in
      let filled = instrs_written c [] locals [] (text ++ line_text (Processor 0)) (omega (arith, part_sum length [] rest c raw.code e, limits.instructions)) words.0 begun in
      let more = processors_written rest [] c locals (text ++ line_text (Processor 0) ++ flat_map instr_text c) e words.1 filled in
      subst (λ (t : List ℕ). Reaches (whole locals) (t ++ line_text Stop)) (re3 text (line_text (Processor 0)) (flat_map instr_text c) (processors_text 1 rest)) more

  pub record IsWhole : Type 0 where
    pub said : List Line
    pub fine : AreFine said
    pub text_is : text_said said ≡ text_of raw
    pub stopped : stage_of said ≡ stages.Stopped
    pub raw_is : raw_said (said_by said) ≡ raw

  -- the text is one of fine lines, which say these parts
  pub whole_written : IsWhole
  unfolding text_of
  whole_written =
      let datums = data_written raw.datums [] (line_text Pyrros ++ line_text (Processors (length raw.code))) refl limits.lengths spelled.names header_written in
      let tasks = tasks_written raw.tasks [] stages.Data 0 (line_text Pyrros ++ line_text (Processors (length raw.code)) ++ flat_map datum_text raw.datums) refl refl limits.each_task spelled.tasks datums in
      let prints = prints_written raw.prints [] tasks.stage tasks.locals (line_text Pyrros ++ line_text (Processors (length raw.code)) ++ flat_map datum_text raw.datums ++ flat_map task_text raw.tasks) refl
      (prints_may tasks.stage tasks.stands) spelled.prints tasks.reached in
      let channels = channels_written raw.channels [] prints.stage tasks.locals
      (line_text Pyrros ++ line_text (Processors (length raw.code)) ++ flat_map datum_text raw.datums ++ flat_map task_text raw.tasks ++ flat_map print_text raw.prints) refl
      (channels_may prints.stage prints.stands) spelled.channels prints.reached in
      let all = first_written raw.code channels.stage tasks.locals
      (line_text Pyrros ++ line_text (Processors (length raw.code)) ++ flat_map datum_text raw.datums ++ flat_map task_text raw.tasks ++ flat_map print_text raw.prints ++ flat_map channel_text raw.channels) refl
      channels.stands spelled.code channels.reached in
      record {
        said = all.said;
        fine = all.fine;
        text_is = all.text_is;
        stopped = ap (λ (s : Said). s.stage) all.is_said;
        raw_is = ap raw_said all.is_said;
      }
