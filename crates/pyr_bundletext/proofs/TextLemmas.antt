-- The lines of a bundle, put together, are its text.
use Rattle.std.proofs.Common.{◌≡◌, ℕ, ◌+◌, ◌<◌, true, false, ◌&&◌, List, [], ◌∷◌, ◌++◌, length, ◌⊎◌, inl, inr, refl, sym, ap, subst, ◌∙◌, arith}
use Rattle.std.specs.Prelude.{codes, ◌==◌, nat_lt}
use Rattle.std.specs.List.{flat_map}
use Rattle.std.proofs.lemmas.List.{append_assoc, append-nil, length-append}
use Rattle.std.proofs.lemmas.Grind.{flat_map-append}
use Rattle.std.proofs.lemmas.List.Concat.{flat_map-cons}
use Rattle.std.proofs.lemmas.Bool.{eqb-true, ltb-true}
use Rattle.std.proofs.lemmas.Bool.Decides.{nat_tests}
use Rattle.pyr_decimal.proofs.Choices.{both}
use Rattle.pyr_code.specs.declared.op.Op.{Op as OpValue}
use Rattle.pyr_code.specs.declared.op.Op.TheVariants as ops
use Rattle.pyr_code.specs.Seen.{op_of, code_of as tree_of_ops}
use Rattle.pyr_code.proofs.SeenLemmas.{op_of-Loop}
use Rattle.pyr_bundle.specs.declared.raw_channel.RawChannel.{RawChannel}
use Rattle.pyr_bundle.specs.declared.raw_instr.RawInstr.{RawInstr}
use Rattle.pyr_bundle.specs.declared.raw_instr.RawInstr.TheVariants as instrs
use Rattle.pyr_bundletext.specs.declared.plain_op.PlainOp.{PlainOp}
use Rattle.pyr_bundletext.specs.declared.plain_op.PlainOp.TheVariants as plain
use Rattle.pyr_bundletext.specs.declared.open_loop.OpenLoop.{OpenLoop}
use Rattle.pyr_bundletext.specs.declared.line.Line.{Line}
use Rattle.pyr_bundletext.specs.declared.line.Line.TheVariants.{Pyrros, Processors, Datum, Task, Reads, Writes, Plain, Loop, Done, End, Print, Channel, Processor, Instr, Stop}
use Rattle.pyr_bundletext.specs.declared.stage.Stage.{Stage}
use Rattle.pyr_bundletext.specs.declared.stage.Stage.TheVariants as stages
use Rattle.pyr_bundletext.specs.Text.{line, op_text, code_text, datum_text, task_text, print_text, channel_text, instr_text, processors_text, text_of}
use Rattle.pyr_bundletext.specs.Line.{line_text, op_word, op_numbers}
use Rattle.pyr_bundletext.specs.Earlier.{Said, Nest, plain_op, with_op, ended, raw_said}
use Rattle.pyr_bundletext.specs.Faults.{may_stand, is_start, is_versioned, is_data, is_task_begun, is_task_reads, is_code, is_processor, has_tasks, has_prints, has_channels, has_processors}
use Rattle.pyr_bundletext.specs.Tells.{advance}
use Rattle.pyr_bundletext.proofs.CodeLemmas.{plain_tree, plain_seen}

-- code

abbrev pub ops_text : List OpValue → List ℕ
ops_text list = code_text (tree_of_ops list)

pub ops_text_more : (list : List OpValue) (op : OpValue) → ops_text (list ++ op ∷ []) ≡ ops_text list ++ op_text (op_of op)
ops_text_more [] op = append-nil (op_text (op_of op))
ops_text_more (o ∷ list) op =
    ap (λ (l : List ℕ). op_text (op_of o) ++ l) (ops_text_more list op)
    ∙ sym (append_assoc (op_text (op_of o)) (ops_text list) (op_text (op_of op)))

plain_text : (op : PlainOp) → op_text (plain_tree op) ≡ line (op_word op) (op_numbers op)
plain_text (plain.Push word) = refl
plain_text (plain.Load l) = refl
plain_text (plain.Store l) = refl
plain_text plain.Frame = refl
plain_text (plain.Get slot) = refl
plain_text (plain.Put output) = refl
plain_text (plain.Bin operator) = refl
plain_text plain.Sel = refl

pub plain_line : (op : PlainOp) → op_text (op_of (plain_op op)) ≡ line_text (Plain op)
plain_line op = ap op_text (plain_seen op) ∙ plain_text op

-- the text of code that is being read
abbrev pub nest_text : List OpenLoop → List OpValue → List ℕ
nest_text [] current = ops_text current
nest_text (o ∷ outer) current = nest_text outer o.before ++ line_text (Loop o.local o.count) ++ ops_text current

pub nest_more : (outer : List OpenLoop) (current : List OpValue) (op : OpValue)
    → nest_text outer (current ++ op ∷ []) ≡ nest_text outer current ++ op_text (op_of op)
nest_more [] current op = ops_text_more current op
nest_more (o ∷ outer) current op =
    let before = nest_text outer o.before ++ line_text (Loop o.local o.count) in
    ap (λ (l : List ℕ). before ++ l) (ops_text_more current op)
    ∙ sym (append_assoc before (ops_text current) (op_text (op_of op)))

pub nest_plain : (nest : Nest) (op : PlainOp)
    → nest_text nest.outer (with_op nest (plain_op op)).current ≡ nest_text nest.outer nest.current ++ line_text (Plain op)
nest_plain nest op =
    nest_more nest.outer nest.current (plain_op op) ∙ ap (λ (l : List ℕ). nest_text nest.outer nest.current ++ l) (plain_line op)

pub loop_text : (o : OpenLoop) (current : List OpValue)
    → op_text (op_of (ops.Loop o.local o.count current)) ≡ line_text (Loop o.local o.count) ++ ops_text current ++ line_text Done
loop_text o current = ap op_text (op_of-Loop o.local o.count current)

pub nest_ended : (outer : List OpenLoop) (current : List OpValue) → 0 < length outer
    → nest_text (ended outer current).outer (ended outer current).current ≡ nest_text outer current ++ line_text Done
nest_ended [] current h = absurd (omega arith)
nest_ended (o ∷ outer) current h =
    let before = nest_text outer o.before in
    let begin = line_text (Loop o.local o.count) in
    nest_more outer o.before (ops.Loop o.local o.count current)
    ∙ ap (λ (l : List ℕ). before ++ l) (loop_text o current)
    ∙ sym (append_assoc before (begin ++ ops_text current) (line_text Done))
    ∙ ap (λ (l : List ℕ). l ++ line_text Done) (sym (append_assoc before begin (ops_text current)))

-- processors

abbrev pub processor_text : ℕ → List RawInstr → List ℕ
processor_text p code = line (codes "processor") (p ∷ []) ++ flat_map instr_text code

pub processors_more : (p : ℕ) (code : List (List RawInstr)) (last : List RawInstr)
    → processors_text p (code ++ last ∷ []) ≡ processors_text p code ++ processor_text (p + length code) last
processors_more p [] last = append-nil (processor_text p last) ∙ ap (λ (n : ℕ). processor_text n last) (let e : p ≡ p + 0 = omega arith in e)
processors_more p (c ∷ code) last =
    let one : p + 1 + length code ≡ p + length (c ∷ code) = omega arith in
    ap (λ (l : List ℕ). processor_text p c ++ l) (processors_more (p + 1) code last ∙ ap (λ (n : ℕ). processors_text (p + 1) code ++ processor_text n last) one)
    ∙ sym (append_assoc (processor_text p c) (processors_text (p + 1) code) (processor_text (p + length (c ∷ code)) last))

pub instr_line : (instr : RawInstr) → line_text (Instr instr) ≡ instr_text instr
instr_line (instrs.Recv from d) = refl
instr_line (instrs.Exec t) = refl
instr_line (instrs.Send to d) = refl

flat_more : {X : Type 0} (f : X → List ℕ) (xs : List X) (x : X) → flat_map f (xs ++ x ∷ []) ≡ flat_map f xs ++ f x
flat_more f xs x = flat_map-append f xs (x ∷ []) ∙ ap (λ (l : List ℕ). flat_map f xs ++ l) (flat_map-cons f x [] ∙ append-nil (f x))

-- the text up to each section

abbrev upto_header : Said → List ℕ
upto_header s = line (codes "pyrros") (1 ∷ []) ++ line (codes "processors") (s.processors ∷ [])

abbrev upto_data : Said → List ℕ
upto_data s = upto_header s ++ flat_map datum_text s.datums

abbrev upto_tasks : Said → List ℕ
upto_tasks s = upto_data s ++ flat_map task_text s.tasks

abbrev upto_prints : Said → List ℕ
upto_prints s = upto_tasks s ++ flat_map print_text s.prints

abbrev upto_channels : Said → List ℕ
upto_channels s = upto_prints s ++ flat_map channel_text s.channels

abbrev upto_code : Said → List ℕ
upto_code s = upto_channels s ++ processors_text 0 s.code

-- the text so far
abbrev pub text_at : Stage → Said → List ℕ
text_at stages.Start s = []
text_at stages.Versioned s = line (codes "pyrros") (1 ∷ [])
text_at stages.Data s = upto_data s
text_at stages.TaskBegun s = upto_tasks s ++ line_text (Task s.locals)
text_at stages.TaskReads s = upto_tasks s ++ line_text (Task s.locals) ++ line_text (Reads s.reads)
text_at stages.Code s =
    upto_tasks s ++ line_text (Task s.locals) ++ line_text (Reads s.reads) ++ line_text (Writes s.writes)
    ++ nest_text s.nest.outer s.nest.current
text_at stages.Tasks s = upto_tasks s
text_at stages.Prints s = upto_prints s
text_at stages.Channels s = upto_channels s
text_at stages.Processor s = upto_code s ++ processor_text (length s.code) s.instrs
text_at stages.Stopped s = upto_code s ++ line_text Stop

-- how far a text has come
abbrev pub rank : Stage → ℕ
rank stages.Start = 0
rank stages.Versioned = 1
rank stages.Data = 2
rank stages.TaskBegun = 3
rank stages.TaskReads = 3
rank stages.Code = 3
rank stages.Tasks = 3
rank stages.Prints = 4
rank stages.Channels = 5
rank stages.Processor = 6
rank stages.Stopped = 7

-- how many processors were begun
abbrev pub AreBegun : Stage → Said → Type 0
AreBegun stages.Processor s = s.begun ≡ length s.code + 1
AreBegun stages.Stopped s = s.processors ≡ length s.code
AreBegun _ s = (s.begun ≡ 0) × (s.code ≡ []) × (s.instrs ≡ [])

-- nothing stands before its section, and the text so far is this one
pub record IsOrdered (s : Said) (text : List ℕ) : Type 0 where
  pub datums : rank s.stage < 2 → s.datums ≡ []
  pub tasks : rank s.stage < 3 → s.tasks ≡ []
  pub prints : rank s.stage < 4 → s.prints ≡ []
  pub channels : rank s.stage < 5 → s.channels ≡ []
  pub begun : AreBegun s.stage s
  pub text_is : text ≡ text_at s.stage s

-- where lines of one kind stand

pub at_start : (st : Stage) → is_start st ≡ true → st ≡ stages.Start
at_start stages.Start f = refl
at_start stages.Versioned f = absurd cc
at_start stages.Data f = absurd cc
at_start stages.TaskBegun f = absurd cc
at_start stages.TaskReads f = absurd cc
at_start stages.Code f = absurd cc
at_start stages.Tasks f = absurd cc
at_start stages.Prints f = absurd cc
at_start stages.Channels f = absurd cc
at_start stages.Processor f = absurd cc
at_start stages.Stopped f = absurd cc

pub at_versioned : (st : Stage) → is_versioned st ≡ true → st ≡ stages.Versioned
at_versioned stages.Start f = absurd cc
at_versioned stages.Versioned f = refl
at_versioned stages.Data f = absurd cc
at_versioned stages.TaskBegun f = absurd cc
at_versioned stages.TaskReads f = absurd cc
at_versioned stages.Code f = absurd cc
at_versioned stages.Tasks f = absurd cc
at_versioned stages.Prints f = absurd cc
at_versioned stages.Channels f = absurd cc
at_versioned stages.Processor f = absurd cc
at_versioned stages.Stopped f = absurd cc

pub at_data : (st : Stage) → is_data st ≡ true → st ≡ stages.Data
at_data stages.Start f = absurd cc
at_data stages.Versioned f = absurd cc
at_data stages.Data f = refl
at_data stages.TaskBegun f = absurd cc
at_data stages.TaskReads f = absurd cc
at_data stages.Code f = absurd cc
at_data stages.Tasks f = absurd cc
at_data stages.Prints f = absurd cc
at_data stages.Channels f = absurd cc
at_data stages.Processor f = absurd cc
at_data stages.Stopped f = absurd cc

pub at_begun : (st : Stage) → is_task_begun st ≡ true → st ≡ stages.TaskBegun
at_begun stages.Start f = absurd cc
at_begun stages.Versioned f = absurd cc
at_begun stages.Data f = absurd cc
at_begun stages.TaskBegun f = refl
at_begun stages.TaskReads f = absurd cc
at_begun stages.Code f = absurd cc
at_begun stages.Tasks f = absurd cc
at_begun stages.Prints f = absurd cc
at_begun stages.Channels f = absurd cc
at_begun stages.Processor f = absurd cc
at_begun stages.Stopped f = absurd cc

pub at_reads : (st : Stage) → is_task_reads st ≡ true → st ≡ stages.TaskReads
at_reads stages.Start f = absurd cc
at_reads stages.Versioned f = absurd cc
at_reads stages.Data f = absurd cc
at_reads stages.TaskBegun f = absurd cc
at_reads stages.TaskReads f = refl
at_reads stages.Code f = absurd cc
at_reads stages.Tasks f = absurd cc
at_reads stages.Prints f = absurd cc
at_reads stages.Channels f = absurd cc
at_reads stages.Processor f = absurd cc
at_reads stages.Stopped f = absurd cc

pub at_code : (st : Stage) → is_code st ≡ true → st ≡ stages.Code
at_code stages.Start f = absurd cc
at_code stages.Versioned f = absurd cc
at_code stages.Data f = absurd cc
at_code stages.TaskBegun f = absurd cc
at_code stages.TaskReads f = absurd cc
at_code stages.Code f = refl
at_code stages.Tasks f = absurd cc
at_code stages.Prints f = absurd cc
at_code stages.Channels f = absurd cc
at_code stages.Processor f = absurd cc
at_code stages.Stopped f = absurd cc

pub at_processor : (st : Stage) → is_processor st ≡ true → st ≡ stages.Processor
at_processor stages.Start f = absurd cc
at_processor stages.Versioned f = absurd cc
at_processor stages.Data f = absurd cc
at_processor stages.TaskBegun f = absurd cc
at_processor stages.TaskReads f = absurd cc
at_processor stages.Code f = absurd cc
at_processor stages.Tasks f = absurd cc
at_processor stages.Prints f = absurd cc
at_processor stages.Channels f = absurd cc
at_processor stages.Processor f = refl
at_processor stages.Stopped f = absurd cc

pub low_tasks : (st : Stage) → has_tasks st ≡ true → rank st < 4
low_tasks stages.Start f = absurd cc
low_tasks stages.Versioned f = absurd cc
low_tasks stages.Data f = omega arith
low_tasks stages.TaskBegun f = absurd cc
low_tasks stages.TaskReads f = absurd cc
low_tasks stages.Code f = absurd cc
low_tasks stages.Tasks f = omega arith
low_tasks stages.Prints f = absurd cc
low_tasks stages.Channels f = absurd cc
low_tasks stages.Processor f = absurd cc
low_tasks stages.Stopped f = absurd cc

pub low_prints : (st : Stage) → has_prints st ≡ true → rank st < 5
low_prints stages.Start f = absurd cc
low_prints stages.Versioned f = absurd cc
low_prints stages.Data f = omega arith
low_prints stages.TaskBegun f = absurd cc
low_prints stages.TaskReads f = absurd cc
low_prints stages.Code f = absurd cc
low_prints stages.Tasks f = omega arith
low_prints stages.Prints f = omega arith
low_prints stages.Channels f = absurd cc
low_prints stages.Processor f = absurd cc
low_prints stages.Stopped f = absurd cc

pub low_channels : (st : Stage) → has_channels st ≡ true → rank st < 6
low_channels stages.Start f = absurd cc
low_channels stages.Versioned f = absurd cc
low_channels stages.Data f = omega arith
low_channels stages.TaskBegun f = absurd cc
low_channels stages.TaskReads f = absurd cc
low_channels stages.Code f = absurd cc
low_channels stages.Tasks f = omega arith
low_channels stages.Prints f = omega arith
low_channels stages.Channels f = omega arith
low_channels stages.Processor f = absurd cc
low_channels stages.Stopped f = absurd cc

not_stopped : (st : Stage) → has_processors st ≡ true → (has_channels st ≡ true) ⊎ (st ≡ stages.Processor)
not_stopped stages.Start f = absurd cc
not_stopped stages.Versioned f = absurd cc
not_stopped stages.Data f = inl refl
not_stopped stages.TaskBegun f = absurd cc
not_stopped stages.TaskReads f = absurd cc
not_stopped stages.Code f = absurd cc
not_stopped stages.Tasks f = inl refl
not_stopped stages.Prints f = inl refl
not_stopped stages.Channels f = inl refl
not_stopped stages.Processor f = inr refl
not_stopped stages.Stopped f = absurd cc

-- text with more behind it

pub re3 : (u a b c : List ℕ) → u ++ a ++ b ++ c ≡ u ++ (a ++ b ++ c)
re3 u a b c = ap (λ (l : List ℕ). l ++ c) (append_assoc u a b) ∙ append_assoc u (a ++ b) c

re4 : (u a b c d : List ℕ) → u ++ a ++ b ++ c ++ d ≡ u ++ (a ++ b ++ c ++ d)
re4 u a b c d = ap (λ (l : List ℕ). l ++ d) (re3 u a b c) ∙ append_assoc u (a ++ b ++ c) d

pub re5 : (u a b c d e : List ℕ) → u ++ a ++ b ++ c ++ d ++ e ≡ u ++ (a ++ b ++ c ++ d ++ e)
re5 u a b c d e = ap (λ (l : List ℕ). l ++ e) (re4 u a b c d) ∙ append_assoc u (a ++ b ++ c ++ d) e

section : {X : Type 0} (f : X → List ℕ) (u : List ℕ) (xs : List X) (x : X) → u ++ flat_map f xs ++ f x ≡ u ++ flat_map f (xs ++ x ∷ [])
section f u xs x = append_assoc u (flat_map f xs) (f x) ∙ ap (λ (l : List ℕ). u ++ l) (sym (flat_more f xs x))

empty_section : {X : Type 0} (f : X → List ℕ) (u : List ℕ) (xs : List X) → xs ≡ [] → u ≡ u ++ flat_map f xs
empty_section f u xs none = sym (append-nil u) ∙ ap (λ (l : List _). u ++ flat_map f l) (sym none)

no_outer : (outer : List OpenLoop) (current : List OpValue) → length outer ≡ 0 → nest_text outer current ≡ ops_text current
no_outer [] current h = refl
no_outer (o ∷ outer) current h = absurd (omega arith)

some_begun : (n m : ℕ) → n ≡ m + 1 → (n == 0) ≡ false
some_begun n m h = grind (arith, nat_tests)

module _ (s : Said) (text : List ℕ) (h : IsOrdered s text) where
  here : (st : Stage) → s.stage ≡ st → text ≡ text_at st s
  here st e = subst (λ (x : Stage). text ≡ text_at x s) e h.text_is

  is_begun : s.stage ≡ stages.Processor → s.begun ≡ length s.code + 1
  is_begun e = subst (λ (x : Stage). AreBegun x s) e h.begun

  unbegun : rank s.stage < 6 → (s.begun ≡ 0) × (s.code ≡ []) × (s.instrs ≡ [])
  unbegun low = go s.stage low h.begun
    where
      go : (st : Stage) → rank st < 6 → AreBegun st s → (s.begun ≡ 0) × (s.code ≡ []) × (s.instrs ≡ [])
      go stages.Start l b = b
      go stages.Versioned l b = b
      go stages.Data l b = b
      go stages.TaskBegun l b = b
      go stages.TaskReads l b = b
      go stages.Code l b = b
      go stages.Tasks l b = b
      go stages.Prints l b = b
      go stages.Channels l b = b
      go stages.Processor l b = absurd (omega arith)
      go stages.Stopped l b = absurd (omega arith)

  at_tasks : has_tasks s.stage ≡ true → text ≡ upto_tasks s
  at_tasks f = go s.stage refl f
    where
      go : (st : Stage) → s.stage ≡ st → has_tasks st ≡ true → text ≡ upto_tasks s
      go stages.Start e f = absurd cc
      go stages.Versioned e f = absurd cc
      go stages.Data e f = here stages.Data e ∙ empty_section task_text (upto_data s) s.tasks (h.tasks (subst (λ (y : Stage). rank y < 3) (sym e) (omega arith)))
      go stages.TaskBegun e f = absurd cc
      go stages.TaskReads e f = absurd cc
      go stages.Code e f = absurd cc
      go stages.Tasks e f = here stages.Tasks e
      go stages.Prints e f = absurd cc
      go stages.Channels e f = absurd cc
      go stages.Processor e f = absurd cc
      go stages.Stopped e f = absurd cc

  at_prints : has_prints s.stage ≡ true → text ≡ upto_prints s
  at_prints f = go s.stage refl f
    where
      before : has_tasks s.stage ≡ true → text ≡ upto_prints s
      before t = at_tasks t ∙ empty_section print_text (upto_tasks s) s.prints (h.prints (low_tasks s.stage t))

      go : (st : Stage) → s.stage ≡ st → has_prints st ≡ true → text ≡ upto_prints s
      go stages.Start e f = absurd cc
      go stages.Versioned e f = absurd cc
      go stages.Data e f = before (ap has_tasks e)
      go stages.TaskBegun e f = absurd cc
      go stages.TaskReads e f = absurd cc
      go stages.Code e f = absurd cc
      go stages.Tasks e f = before (ap has_tasks e)
      go stages.Prints e f = here stages.Prints e
      go stages.Channels e f = absurd cc
      go stages.Processor e f = absurd cc
      go stages.Stopped e f = absurd cc

  at_channels : has_channels s.stage ≡ true → text ≡ upto_channels s
  at_channels f = go s.stage refl f
    where
      before : has_prints s.stage ≡ true → text ≡ upto_channels s
      before t = at_prints t ∙ empty_section channel_text (upto_prints s) s.channels (h.channels (low_prints s.stage t))

      go : (st : Stage) → s.stage ≡ st → has_channels st ≡ true → text ≡ upto_channels s
      go stages.Start e f = absurd cc
      go stages.Versioned e f = absurd cc
      go stages.Data e f = before (ap has_prints e)
      go stages.TaskBegun e f = absurd cc
      go stages.TaskReads e f = absurd cc
      go stages.Code e f = absurd cc
      go stages.Tasks e f = before (ap has_prints e)
      go stages.Prints e f = before (ap has_prints e)
      go stages.Channels e f = here stages.Channels e
      go stages.Processor e f = absurd cc
      go stages.Stopped e f = absurd cc

  -- what stands before its section, where the next line stands in a later one
  low_by : (st : Stage) (n : ℕ) → s.stage ≡ st → rank st < n → rank s.stage < n
  low_by st n e l = subst (λ (x : Stage). rank x < n) (sym e) l

  step_pyrros : is_start s.stage ≡ true → IsOrdered (advance s Pyrros) (text ++ line_text Pyrros)
  unfolding advance
  step_pyrros f =
      let e : s.stage ≡ stages.Start = at_start s.stage f in
      record {
        datums = λ l. h.datums (low_by stages.Start 2 e (omega arith));
        tasks = λ l. h.tasks (low_by stages.Start 3 e (omega arith));
        prints = λ l. h.prints (low_by stages.Start 4 e (omega arith));
        channels = λ l. h.channels (low_by stages.Start 5 e (omega arith));
        begun = unbegun (low_by stages.Start 6 e (omega arith));
        text_is = ap (λ (t : List ℕ). t ++ line_text Pyrros) (here stages.Start e);
      }

  step_processors : (count : ℕ) → is_versioned s.stage ≡ true → IsOrdered (advance s (Processors count)) (text ++ line_text (Processors count))
  unfolding advance
  step_processors count f =
      let e : s.stage ≡ stages.Versioned = at_versioned s.stage f in
      record {
        datums = λ l. absurd (omega arith);
        tasks = λ l. h.tasks (low_by stages.Versioned 3 e (omega arith));
        prints = λ l. h.prints (low_by stages.Versioned 4 e (omega arith));
        channels = λ l. h.channels (low_by stages.Versioned 5 e (omega arith));
        begun = unbegun (low_by stages.Versioned 6 e (omega arith));
        text_is =
            ap (λ (t : List ℕ). t ++ line_text (Processors count)) (here stages.Versioned e)
            ∙ empty_section datum_text (line_text Pyrros ++ line_text (Processors count)) s.datums (h.datums (low_by stages.Versioned 2 e (omega arith)));
      }

  step_datum : (name : List ℕ) (words : ℕ) → is_data s.stage ≡ true → IsOrdered (advance s (Datum name words)) (text ++ line_text (Datum name words))
  unfolding advance
  step_datum name words f =
      let e : s.stage ≡ stages.Data = at_data s.stage f in
      record {
        datums = λ l. absurd (omega arith);
        tasks = λ l. h.tasks (low_by stages.Data 3 e (omega arith));
        prints = λ l. h.prints (low_by stages.Data 4 e (omega arith));
        channels = λ l. h.channels (low_by stages.Data 5 e (omega arith));
        begun = unbegun (low_by stages.Data 6 e (omega arith));
        text_is =
            ap (λ (t : List ℕ). t ++ line_text (Datum name words)) (here stages.Data e)
            ∙ section datum_text (upto_header s) s.datums (record { name = name; length = words });
      }

  step_task : (locals : ℕ) → has_tasks s.stage ≡ true → IsOrdered (advance s (Task locals)) (text ++ line_text (Task locals))
  unfolding advance
  step_task locals f =
      let low : rank s.stage < 4 = low_tasks s.stage f in
      record {
        datums = λ l. absurd (omega arith);
        tasks = λ l. absurd (omega arith);
        prints = λ l. h.prints low;
        channels = λ l. h.channels (omega (arith, low));
        begun = unbegun (omega (arith, low));
        text_is = ap (λ (t : List ℕ). t ++ line_text (Task locals)) (at_tasks f);
      }

  -- a line within a task
  within : (st : Stage) (l : Line) → rank st ≡ 3 → s.stage ≡ st
      → rank (advance s l).stage ≡ 3 → (advance s l).prints ≡ s.prints → (advance s l).channels ≡ s.channels
      → ((s.begun ≡ 0) × (s.code ≡ []) × (s.instrs ≡ []) → AreBegun (advance s l).stage (advance s l))
      → text ++ line_text l ≡ text_at (advance s l).stage (advance s l)
      → IsOrdered (advance s l) (text ++ line_text l)
  within st l low e next prints channels begun text_is = record {
    datums = λ k. absurd (omega (arith, next));
    tasks = λ k. absurd (omega (arith, next));
    prints = λ k. prints ∙ h.prints (low_by st 4 e (omega (arith, low)));
    channels = λ k. channels ∙ h.channels (low_by st 5 e (omega (arith, low)));
    begun = begun (unbegun (low_by st 6 e (omega (arith, low))));
    text_is = text_is;
  }

  step_reads : (datums : List ℕ) → is_task_begun s.stage ≡ true → IsOrdered (advance s (Reads datums)) (text ++ line_text (Reads datums))
  unfolding advance
  step_reads datums f =
      let e : s.stage ≡ stages.TaskBegun = at_begun s.stage f in
      within stages.TaskBegun (Reads datums) refl e refl refl refl (λ b. b)
      (ap (λ (t : List ℕ). t ++ line_text (Reads datums)) (here stages.TaskBegun e))

  step_writes : (datums : List ℕ) → is_task_reads s.stage ≡ true → IsOrdered (advance s (Writes datums)) (text ++ line_text (Writes datums))
  unfolding advance
  step_writes datums f =
      let e : s.stage ≡ stages.TaskReads = at_reads s.stage f in
      within stages.TaskReads (Writes datums) refl e refl refl refl (λ b. b)
      (ap (λ (t : List ℕ). t ++ line_text (Writes datums)) (here stages.TaskReads e) ∙ sym (append-nil _))

  -- a line of code
  abbrev head : List ℕ
  head = upto_tasks s ++ line_text (Task s.locals) ++ line_text (Reads s.reads) ++ line_text (Writes s.writes)

  coded : (l : List ℕ) (new : List ℕ) → s.stage ≡ stages.Code → new ≡ nest_text s.nest.outer s.nest.current ++ l
      → text ++ l ≡ head ++ new
  coded l new e is =
      ap (λ (t : List ℕ). t ++ l) (here stages.Code e)
      ∙ append_assoc head (nest_text s.nest.outer s.nest.current) l
      ∙ ap (λ (t : List ℕ). head ++ t) (sym is)

  step_plain : (op : PlainOp) → is_code s.stage ≡ true → IsOrdered (advance s (Plain op)) (text ++ line_text (Plain op))
  unfolding advance
  step_plain op f =
      let e : s.stage ≡ stages.Code = at_code s.stage f in
      within stages.Code (Plain op) refl e refl refl refl (λ b. b)
      (coded (line_text (Plain op)) (nest_text s.nest.outer (with_op s.nest (plain_op op)).current) e (nest_plain s.nest op))

  step_loop : (local count : ℕ) → is_code s.stage ≡ true → IsOrdered (advance s (Loop local count)) (text ++ line_text (Loop local count))
  unfolding advance
  step_loop local count f =
      let e : s.stage ≡ stages.Code = at_code s.stage f in
      within stages.Code (Loop local count) refl e refl refl refl (λ b. b)
      (coded (line_text (Loop local count)) (nest_text s.nest.outer s.nest.current ++ line_text (Loop local count) ++ []) e (append-nil _))

  step_done : is_code s.stage ≡ true → 0 < length s.nest.outer → IsOrdered (advance s Done) (text ++ line_text Done)
  unfolding advance
  step_done f some =
      let e : s.stage ≡ stages.Code = at_code s.stage f in
      within stages.Code Done refl e refl refl refl (λ b. b)
      (coded (line_text Done) (nest_text (ended s.nest.outer s.nest.current).outer (ended s.nest.outer s.nest.current).current) e (nest_ended s.nest.outer s.nest.current some))

  step_end : is_code s.stage ≡ true → length s.nest.outer ≡ 0 → IsOrdered (advance s End) (text ++ line_text End)
  unfolding advance
  step_end f none =
      let e : s.stage ≡ stages.Code = at_code s.stage f in
      within stages.Code End refl e refl refl refl (λ b. b)
      (coded (line_text End) (ops_text s.nest.current ++ line_text End) e (ap (λ (t : List ℕ). t ++ line_text End) (sym (no_outer s.nest.outer s.nest.current none)))
      ∙ sym (append_assoc head (ops_text s.nest.current) (line_text End))
      ∙ re5 (upto_tasks s) (line_text (Task s.locals)) (line_text (Reads s.reads)) (line_text (Writes s.writes)) (ops_text s.nest.current) (line_text End)
      ∙ section task_text (upto_data s) s.tasks (record { locals = s.locals; reads = s.reads; writes = s.writes; code = s.nest.current }))

  step_print : (d : ℕ) → has_prints s.stage ≡ true → IsOrdered (advance s (Print d)) (text ++ line_text (Print d))
  unfolding advance
  step_print d f =
      let low : rank s.stage < 5 = low_prints s.stage f in
      record {
        datums = λ l. absurd (omega arith);
        tasks = λ l. absurd (omega arith);
        prints = λ l. absurd (omega arith);
        channels = λ l. h.channels low;
        begun = unbegun (omega (arith, low));
        text_is = ap (λ (t : List ℕ). t ++ line_text (Print d)) (at_prints f) ∙ section print_text (upto_tasks s) s.prints d;
      }

  step_channel : (c : RawChannel) → has_channels s.stage ≡ true → IsOrdered (advance s (Channel c)) (text ++ line_text (Channel c))
  unfolding advance
  step_channel c f =
      let low : rank s.stage < 6 = low_channels s.stage f in
      record {
        datums = λ l. absurd (omega arith);
        tasks = λ l. absurd (omega arith);
        prints = λ l. absurd (omega arith);
        channels = λ l. absurd (omega arith);
        begun = unbegun low;
        text_is = ap (λ (t : List ℕ). t ++ line_text (Channel c)) (at_channels f) ∙ section channel_text (upto_prints s) s.channels c;
      }

  -- behind all that stands before the instructions
  first_processor : has_channels s.stage ≡ true → IsOrdered (record s { stage = stages.Processor; begun = s.begun + 1 }) (text ++ line_text (Processor s.begun))
  first_processor f =
      let none : (s.begun ≡ 0) × (s.code ≡ []) × (s.instrs ≡ []) = unbegun (low_channels s.stage f) in
      record {
        datums = λ l. absurd (omega arith);
        tasks = λ l. absurd (omega arith);
        prints = λ l. absurd (omega arith);
        channels = λ l. absurd (omega arith);
        begun = ap (λ (n : ℕ). n + 1) (none.0 ∙ ap (λ (c : List (List RawInstr)). length c) (sym none.1));
        text_is =
            ap (λ (t : List ℕ). t ++ line_text (Processor s.begun)) (at_channels f)
            ∙ ap (λ (n : ℕ). upto_channels s ++ line_text (Processor n)) none.0
            ∙ ap (λ (t : List ℕ). t ++ line_text (Processor 0)) (sym (append-nil (upto_channels s)))
            ∙ ap (λ (t : List ℕ). upto_channels s ++ [] ++ t) (sym (append-nil (line_text (Processor 0))))
            ∙ ap (λ (c : List (List RawInstr)). upto_channels s ++ processors_text 0 c ++ processor_text (length c) []) (sym none.1)
            ∙ ap (λ (i : List RawInstr). upto_code s ++ processor_text (length s.code) i) (sym none.2);
      }

  -- the instructions of the last processor, behind those of the others
  abbrev closed : List (List RawInstr)
  closed = s.code ++ s.instrs ∷ []

  closed_text : s.stage ≡ stages.Processor → text ≡ upto_channels s ++ processors_text 0 closed
  closed_text e =
      here stages.Processor e
      ∙ append_assoc (upto_channels s) (processors_text 0 s.code) (processor_text (length s.code) s.instrs)
      ∙ ap (λ (n : ℕ). upto_channels s ++ (processors_text 0 s.code ++ processor_text n s.instrs)) (let zero_less : length s.code ≡ 0 + length s.code = omega arith in zero_less)
      ∙ ap (λ (t : List ℕ). upto_channels s ++ t) (sym (processors_more 0 s.code s.instrs))

  closed_length : length closed ≡ length s.code + 1
  closed_length = length-append s.code (s.instrs ∷ [])

  next_processor : s.stage ≡ stages.Processor → IsOrdered (record s { stage = stages.Processor; begun = s.begun + 1; code = closed; instrs = [] }) (text ++ line_text (Processor s.begun))
  next_processor e =
      let number : s.begun ≡ length closed = is_begun e ∙ sym closed_length in
      record {
        datums = λ l. absurd (omega arith);
        tasks = λ l. absurd (omega arith);
        prints = λ l. absurd (omega arith);
        channels = λ l. absurd (omega arith);
        begun = ap (λ (n : ℕ). n + 1) number;
        text_is =
            ap (λ (t : List ℕ). t ++ line_text (Processor s.begun)) (closed_text e)
            ∙ ap (λ (n : ℕ). upto_channels s ++ processors_text 0 closed ++ line_text (Processor n)) number
            ∙ ap (λ (t : List ℕ). upto_channels s ++ processors_text 0 closed ++ t) (sym (append-nil (line_text (Processor (length closed)))));
      }

  step_processor : (p : ℕ) → has_processors s.stage ≡ true → p ≡ s.begun → IsOrdered (advance s (Processor p)) (text ++ line_text (Processor p))
  unfolding advance
  step_processor p f e = subst (λ (n : ℕ). IsOrdered (advance s (Processor p)) (text ++ line_text (Processor n))) (sym e) (go (not_stopped s.stage f))
    where
      go : (has_channels s.stage ≡ true) ⊎ (s.stage ≡ stages.Processor) → IsOrdered (advance s (Processor p)) (text ++ line_text (Processor s.begun))
      go (inl first) =
          let zero_is : (s.begun == 0) ≡ true = ap (λ (n : ℕ). n == 0) (unbegun (low_channels s.stage first)).0 in
          rw zero_is (first_processor first)
      go (inr next) =
          let some_is : (s.begun == 0) ≡ false = some_begun s.begun (length s.code) (is_begun next) in
          rw some_is (next_processor next)

  step_instr : (instr : RawInstr) → is_processor s.stage ≡ true → IsOrdered (advance s (Instr instr)) (text ++ line_text (Instr instr))
  unfolding advance
  step_instr instr f =
      let e : s.stage ≡ stages.Processor = at_processor s.stage f in
      let begin = line (codes "processor") (length s.code ∷ []) in
      record {
        datums = λ l. absurd (omega arith);
        tasks = λ l. absurd (omega arith);
        prints = λ l. absurd (omega arith);
        channels = λ l. absurd (omega arith);
        begun = is_begun e;
        text_is =
            ap (λ (t : List ℕ). t ++ line_text (Instr instr)) (here stages.Processor e)
            ∙ ap (λ (t : List ℕ). upto_code s ++ (begin ++ flat_map instr_text s.instrs) ++ t) (instr_line instr)
            ∙ append_assoc (upto_code s) (begin ++ flat_map instr_text s.instrs) (instr_text instr)
            ∙ ap (λ (t : List ℕ). upto_code s ++ t) (section instr_text begin s.instrs instr);
      }

  step_stop : is_processor s.stage ≡ true → s.begun ≡ s.processors → IsOrdered (advance s Stop) (text ++ line_text Stop)
  unfolding advance
  step_stop f all =
      let e : s.stage ≡ stages.Processor = at_processor s.stage f in
      record {
        datums = λ l. absurd (omega arith);
        tasks = λ l. absurd (omega arith);
        prints = λ l. absurd (omega arith);
        channels = λ l. absurd (omega arith);
        begun = sym all ∙ is_begun e ∙ sym closed_length;
        text_is = ap (λ (t : List ℕ). t ++ line_text Stop) (closed_text e);
      }

-- one line more
pub ordered_step : (s : Said) (text : List ℕ) (l : Line) → IsOrdered s text → may_stand s l ≡ true → IsOrdered (advance s l) (text ++ line_text l)
ordered_step s text Pyrros h f = step_pyrros s text h f
ordered_step s text (Processors count) h f = step_processors s text h count f
ordered_step s text (Datum name words) h f = step_datum s text h name words f
ordered_step s text (Task locals) h f = step_task s text h locals f
ordered_step s text (Reads datums) h f = step_reads s text h datums f
ordered_step s text (Writes datums) h f = step_writes s text h datums f
ordered_step s text (Plain op) h f = step_plain s text h op f
ordered_step s text (Loop local count) h f = step_loop s text h local count f
ordered_step s text Done h f =
    let parts : (is_code s.stage ≡ true) × (nat_lt 0 (length s.nest.outer) ≡ true) = both (is_code s.stage) (nat_lt 0 (length s.nest.outer)) f in
    step_done s text h parts.0 (ltb-true 0 (length s.nest.outer) parts.1)
ordered_step s text End h f =
    let parts : (is_code s.stage ≡ true) × ((length s.nest.outer == 0) ≡ true) = both (is_code s.stage) (length s.nest.outer == 0) f in
    step_end s text h parts.0 (eqb-true (length s.nest.outer) 0 parts.1)
ordered_step s text (Print d) h f = step_print s text h d f
ordered_step s text (Channel c) h f = step_channel s text h c f
ordered_step s text (Processor p) h f =
    let parts : ((has_processors s.stage && p == s.begun) ≡ true) × (nat_lt p s.processors ≡ true) = both (has_processors s.stage && p == s.begun) (nat_lt p s.processors) f in
    let more : (has_processors s.stage ≡ true) × ((p == s.begun) ≡ true) = both (has_processors s.stage) (p == s.begun) parts.0 in
    step_processor s text h p more.0 (eqb-true p s.begun more.1)
ordered_step s text (Instr instr) h f = step_instr s text h instr f
ordered_step s text Stop h f =
    let parts : (is_processor s.stage ≡ true) × ((s.begun == s.processors) ≡ true) = both (is_processor s.stage) (s.begun == s.processors) f in
    step_stop s text h parts.0 (eqb-true s.begun s.processors parts.1)

-- the text of what was said to its end
pub ordered_end : (s : Said) (text : List ℕ) → IsOrdered s text → s.stage ≡ stages.Stopped → text ≡ text_of (raw_said s)
unfolding text_of
ordered_end s text h e =
    let count : s.processors ≡ length s.code = subst (λ (x : Stage). AreBegun x s) e h.begun in
    subst (λ (x : Stage). text ≡ text_at x s) e h.text_is
    ∙ ap (λ (n : ℕ). upto_code (record s { processors = n }) ++ line_text Stop) count
