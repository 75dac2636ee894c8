-- What is said of lines can be written.
use Rattle.std.proofs.Common.{◌≡◌, ℕ, Bool, true, false, cond, List, [], ◌∷◌, ◌++◌, sym, subst}
use Rattle.std.specs.Prelude.{◌==◌}
use Rattle.std.specs.List.{AllByRecursion}
use Rattle.pyr_num.specs.Name.{is_name}
use Rattle.pyr_code.specs.declared.op.Op.{Op as OpValue}
use Rattle.pyr_code.specs.declared.op.Op.TheVariants as ops
use Rattle.pyr_code.specs.Seen.{op_of, code_of as tree_of_ops}
use Rattle.pyr_code.proofs.SeenLemmas.{op_of-Loop}
use Rattle.pyr_bundle.specs.declared.raw_datum.RawDatum.{RawDatum}
use Rattle.pyr_bundle.specs.declared.raw_instr.RawInstr.{RawInstr}
use Rattle.pyr_bundle.specs.declared.raw_instr.RawInstr.TheVariants as instrs
use Rattle.pyr_bundletext.specs.declared.plain_op.PlainOp.{PlainOp}
use Rattle.pyr_bundletext.specs.declared.plain_op.PlainOp.TheVariants as plain
use Rattle.pyr_bundletext.specs.declared.open_loop.OpenLoop.{OpenLoop}
use Rattle.pyr_bundletext.specs.declared.line.Line.{Line}
use Rattle.pyr_bundletext.specs.declared.line.Line.TheVariants.{Pyrros, Processors, Datum, Task, Reads, Writes, Plain, Loop, Done, End, Print, Channel, Processor, Instr, Stop}
use Rattle.pyr_bundletext.specs.Line.{IsLine, AreWords, op_numbers, instr_numbers}
use Rattle.pyr_bundletext.specs.Spelled.{IsWord, IsSpelledOp, IsSpelledCode, IsSpelledTask, IsSpelledChannel, IsSpelledInstr, IsSpelled}
use Rattle.pyr_bundletext.specs.Earlier.{Said, plain_op, ended, raw_said}
use Rattle.pyr_bundletext.specs.Tells.{advance}
use Rattle.pyr_bundletext.proofs.CodeLemmas.{plain_tree, plain_seen}

pub all_more : {X : Type 0} (P : X → Type 0) (xs : List X) (x : X) → AllByRecursion P xs → P x → AllByRecursion P (xs ++ x ∷ [])
all_more P [] x h p = (p, tt)
all_more P (y ∷ ys) x h p = (h.0, all_more P ys x h.1 p)

-- code

pub code_more : (list : List OpValue) (op : OpValue) → IsSpelledCode (tree_of_ops list) → IsSpelledOp (op_of op)
    → IsSpelledCode (tree_of_ops (list ++ op ∷ []))
code_more [] op h is = (is, tt)
code_more (o ∷ list) op h is = (h.0, code_more list op h.1 is)

abbrev pub IsSpelledNest : List OpenLoop → List OpValue → Type 0
IsSpelledNest [] current = IsSpelledCode (tree_of_ops current)
IsSpelledNest (o ∷ outer) current =
    IsSpelledCode (tree_of_ops current) × IsWord o.local × IsWord o.count × IsSpelledNest outer o.before

current_spelled : (outer : List OpenLoop) (current : List OpValue) → IsSpelledNest outer current → IsSpelledCode (tree_of_ops current)
current_spelled [] current h = h
current_spelled (o ∷ outer) current h = h.0

nest_more : (outer : List OpenLoop) (current : List OpValue) (op : OpValue) → IsSpelledNest outer current → IsSpelledOp (op_of op)
    → IsSpelledNest outer (current ++ op ∷ [])
nest_more [] current op h is = code_more current op h is
nest_more (o ∷ outer) current op h is = (code_more current op h.0 is, h.1, h.2, h.3)

nest_ended : (outer : List OpenLoop) (current : List OpValue) → IsSpelledNest outer current
    → IsSpelledNest (ended outer current).outer (ended outer current).current
nest_ended [] current h = h
nest_ended (o ∷ outer) current h =
    nest_more outer o.before (ops.Loop o.local o.count current) h.3
    (subst IsSpelledOp (sym (op_of-Loop o.local o.count current)) (h.1, h.2, h.0))

tree_spelled : (op : PlainOp) → AreWords (op_numbers op) → IsSpelledOp (plain_tree op)
tree_spelled (plain.Push word) h = h.0
tree_spelled (plain.Load l) h = h.0
tree_spelled (plain.Store l) h = h.0
tree_spelled plain.Frame h = tt
tree_spelled (plain.Get slot) h = h.0
tree_spelled (plain.Put output) h = h.0
tree_spelled (plain.Bin operator) h = tt
tree_spelled plain.Sel h = tt

plain_spelled : (op : PlainOp) → AreWords (op_numbers op) → IsSpelledOp (op_of (plain_op op))
plain_spelled op h = subst IsSpelledOp (sym (plain_seen op)) (tree_spelled op h)

instr_spelled : (instr : RawInstr) → AreWords (instr_numbers instr) → IsSpelledInstr instr
instr_spelled (instrs.Recv from d) h = (h.0, h.1.0)
instr_spelled (instrs.Exec t) h = h.0
instr_spelled (instrs.Send to d) h = (h.0, h.1.0)

-- what is said can be written
pub record AreSpelled (s : Said) : Type 0 where
  pub names : AllByRecursion (λ d. is_name d.name ≡ true) s.datums
  pub tasks : AllByRecursion IsSpelledTask s.tasks
  pub prints : AllByRecursion IsWord s.prints
  pub channels : AllByRecursion IsSpelledChannel s.channels
  pub code : AllByRecursion (AllByRecursion IsSpelledInstr) s.code
  pub reads : AllByRecursion IsWord s.reads
  pub writes : AllByRecursion IsWord s.writes
  pub nest : IsSpelledNest s.nest.outer s.nest.current
  pub instrs : AllByRecursion IsSpelledInstr s.instrs

begun_spelled : (s : Said) → AreSpelled s → (p : ℕ) → AreSpelled (advance s (Processor p))
unfolding advance
begun_spelled s h p = record {
  names = h.names;
  tasks = h.tasks;
  prints = h.prints;
  channels = h.channels;
  code = code_is (s.begun == 0);
  reads = h.reads;
  writes = h.writes;
  nest = h.nest;
  instrs = instrs_are (s.begun == 0);
}
  where
    code_is : (t : Bool) → AllByRecursion (AllByRecursion IsSpelledInstr) (cond t s.code (s.code ++ s.instrs ∷ []))
    code_is true = h.code
    code_is false = all_more (AllByRecursion IsSpelledInstr) s.code s.instrs h.code h.instrs

    instrs_are : (t : Bool) → AllByRecursion IsSpelledInstr (cond t s.instrs [])
    instrs_are true = h.instrs
    instrs_are false = tt

-- one line more
pub spelled_step : (s : Said) (l : Line) → AreSpelled s → IsLine l → AreSpelled (advance s l)
unfolding advance
spelled_step s Pyrros h is = record {
  names = h.names;
  tasks = h.tasks;
  prints = h.prints;
  channels = h.channels;
  code = h.code;
  reads = h.reads;
  writes = h.writes;
  nest = h.nest;
  instrs = h.instrs;
}
spelled_step s (Processors count) h is = record {
  names = h.names;
  tasks = h.tasks;
  prints = h.prints;
  channels = h.channels;
  code = h.code;
  reads = h.reads;
  writes = h.writes;
  nest = h.nest;
  instrs = h.instrs;
}
spelled_step s (Datum name words) h is = record {
  names = all_more (λ (d : RawDatum). is_name d.name ≡ true) s.datums (record { name = name; length = words }) h.names is.named;
  tasks = h.tasks;
  prints = h.prints;
  channels = h.channels;
  code = h.code;
  reads = h.reads;
  writes = h.writes;
  nest = h.nest;
  instrs = h.instrs;
}
spelled_step s (Task locals) h is = record {
  names = h.names;
  tasks = h.tasks;
  prints = h.prints;
  channels = h.channels;
  code = h.code;
  reads = h.reads;
  writes = h.writes;
  nest = h.nest;
  instrs = h.instrs;
}
spelled_step s (Reads datums) h is = record {
  names = h.names;
  tasks = h.tasks;
  prints = h.prints;
  channels = h.channels;
  code = h.code;
  reads = is.words;
  writes = h.writes;
  nest = h.nest;
  instrs = h.instrs;
}
spelled_step s (Writes datums) h is = record {
  names = h.names;
  tasks = h.tasks;
  prints = h.prints;
  channels = h.channels;
  code = h.code;
  reads = h.reads;
  writes = is.words;
  nest = tt;
  instrs = h.instrs;
}
spelled_step s (Plain op) h is = record {
  names = h.names;
  tasks = h.tasks;
  prints = h.prints;
  channels = h.channels;
  code = h.code;
  reads = h.reads;
  writes = h.writes;
  nest = nest_more s.nest.outer s.nest.current (plain_op op) h.nest (plain_spelled op is.words);
  instrs = h.instrs;
}
spelled_step s (Loop local count) h is = record {
  names = h.names;
  tasks = h.tasks;
  prints = h.prints;
  channels = h.channels;
  code = h.code;
  reads = h.reads;
  writes = h.writes;
  nest = (tt, is.words.0, is.words.1.0, h.nest);
  instrs = h.instrs;
}
spelled_step s Done h is = record {
  names = h.names;
  tasks = h.tasks;
  prints = h.prints;
  channels = h.channels;
  code = h.code;
  reads = h.reads;
  writes = h.writes;
  nest = nest_ended s.nest.outer s.nest.current h.nest;
  instrs = h.instrs;
}
spelled_step s End h is = record {
  names = h.names;
  tasks = all_more IsSpelledTask s.tasks (record { locals = s.locals; reads = s.reads; writes = s.writes; code = s.nest.current }) h.tasks (record { reads = h.reads; writes = h.writes; code = current_spelled s.nest.outer s.nest.current h.nest });
  prints = h.prints;
  channels = h.channels;
  code = h.code;
  reads = tt;
  writes = tt;
  nest = tt;
  instrs = h.instrs;
}
spelled_step s (Print d) h is = record {
  names = h.names;
  tasks = h.tasks;
  prints = all_more IsWord s.prints d h.prints is.words.0;
  channels = h.channels;
  code = h.code;
  reads = h.reads;
  writes = h.writes;
  nest = h.nest;
  instrs = h.instrs;
}
spelled_step s (Channel c) h is = record {
  names = h.names;
  tasks = h.tasks;
  prints = h.prints;
  channels = all_more IsSpelledChannel s.channels c h.channels (is.words.0, is.words.1.0, is.words.1.1.0);
  code = h.code;
  reads = h.reads;
  writes = h.writes;
  nest = h.nest;
  instrs = h.instrs;
}
spelled_step s (Processor p) h is = begun_spelled s h p
spelled_step s (Instr instr) h is = record {
  names = h.names;
  tasks = h.tasks;
  prints = h.prints;
  channels = h.channels;
  code = h.code;
  reads = h.reads;
  writes = h.writes;
  nest = h.nest;
  instrs = all_more IsSpelledInstr s.instrs instr h.instrs (instr_spelled instr is.words);
}
spelled_step s Stop h is = record {
  names = h.names;
  tasks = h.tasks;
  prints = h.prints;
  channels = h.channels;
  code = all_more (AllByRecursion IsSpelledInstr) s.code s.instrs h.code h.instrs;
  reads = h.reads;
  writes = h.writes;
  nest = h.nest;
  instrs = tt;
}

pub spelled_end : (s : Said) → AreSpelled s → IsSpelled (raw_said s)
spelled_end s h =
    record { names = h.names; tasks = h.tasks; prints = h.prints; channels = h.channels; code = h.code }
