-- The text of a bundle: one spelling for each.
use Rattle.std.specs.Prelude.{ℕ, ◌+◌, List, [], ◌∷◌, ◌++◌, length, codes, decimal}
use Rattle.std.specs.List.{flat_map}
use Rattle.pyr_num.specs.declared.arithmetic.Bin.{Bin as Operator}
use Rattle.pyr_num.specs.declared.arithmetic.Bin.TheVariants.{Add, Sub, Mul, Div, Rem, And, Or, Xor, Shl, Shr, Min, Max, Eq, Lt}
use Rattle.pyr_code.specs.Tree.{Op, Push, Load, Store, Frame, Get, Put, Bin, Sel, Loop, Code, End, Then}
use Rattle.pyr_bundle.specs.Raw.{tree_of}
use Rattle.pyr_bundle.specs.declared.raw_bundle.RawBundle.{RawBundle}
use Rattle.pyr_bundle.specs.declared.raw_datum.RawDatum.{RawDatum}
use Rattle.pyr_bundle.specs.declared.raw_task.RawTask.{RawTask}
use Rattle.pyr_bundle.specs.declared.raw_channel.RawChannel.{RawChannel}
use Rattle.pyr_bundle.specs.declared.raw_instr.RawInstr.{RawInstr}
use Rattle.pyr_bundle.specs.declared.raw_instr.RawInstr.TheVariants.{Recv, Exec, Send}

-- a number behind a space
abbrev pub spaced : ℕ → List ℕ
spaced n = 32 ∷ decimal n

-- a line: a word, numbers behind it, and a line feed
abbrev pub line : List ℕ → List ℕ → List ℕ
line word numbers = word ++ flat_map spaced numbers ++ 10 ∷ []

-- the word of an operator
abbrev pub operator_word : Operator → List ℕ
operator_word Add = codes "add"
operator_word Sub = codes "sub"
operator_word Mul = codes "mul"
operator_word Div = codes "div"
operator_word Rem = codes "rem"
operator_word And = codes "and"
operator_word Or = codes "or"
operator_word Xor = codes "xor"
operator_word Shl = codes "shl"
operator_word Shr = codes "shr"
operator_word Min = codes "min"
operator_word Max = codes "max"
operator_word Eq = codes "eq"
operator_word Lt = codes "lt"

-- the line of an op, and for a loop those of its code and its end
abbrev mutual
  pub op_text : Op → List ℕ
  op_text (Push word) = line (codes "push") (word ∷ [])
  op_text (Load l) = line (codes "load") (l ∷ [])
  op_text (Store l) = line (codes "store") (l ∷ [])
  op_text Frame = line (codes "frame") []
  op_text (Get slot) = line (codes "get") (slot ∷ [])
  op_text (Put output) = line (codes "put") (output ∷ [])
  op_text (Bin operator) = line (operator_word operator) []
  op_text Sel = line (codes "sel") []
  op_text (Loop l count turn) =
      line (codes "loop") (l ∷ count ∷ []) ++ code_text turn ++ line (codes "done") []

  pub code_text : Code → List ℕ
  code_text End = []
  code_text (Then op rest) = op_text op ++ code_text rest

abbrev pub datum_text : RawDatum → List ℕ
datum_text datum = line (codes "datum " ++ datum.name) (datum.length ∷ [])

abbrev pub task_text : RawTask → List ℕ
task_text task =
    line (codes "task") (task.locals ∷ []) ++ line (codes "reads") task.reads
    ++ line (codes "writes") task.writes ++ code_text (tree_of task) ++ line (codes "end") []

abbrev pub print_text : ℕ → List ℕ
print_text d = line (codes "print") (d ∷ [])

abbrev pub channel_text : RawChannel → List ℕ
channel_text c = line (codes "channel") (c.from ∷ c.to ∷ c.capacity ∷ [])

abbrev pub instr_text : RawInstr → List ℕ
instr_text (Recv from d) = line (codes "recv") (from ∷ d ∷ [])
instr_text (Exec t) = line (codes "exec") (t ∷ [])
instr_text (Send to d) = line (codes "send") (to ∷ d ∷ [])

-- the lines of the processors, the first of which has this number
abbrev pub processors_text : ℕ → List (List RawInstr) → List ℕ
processors_text p [] = []
processors_text p (code ∷ rest) =
    line (codes "processor") (p ∷ []) ++ flat_map instr_text code ++ processors_text (p + 1) rest

-- the text of these parts
unfoldable pub text_of : RawBundle → List ℕ
text_of raw =
    line (codes "pyrros") (1 ∷ []) ++ line (codes "processors") (length raw.code ∷ [])
    ++ flat_map datum_text raw.datums ++ flat_map task_text raw.tasks
    ++ flat_map print_text raw.prints ++ flat_map channel_text raw.channels
    ++ processors_text 0 raw.code ++ line (codes "stop") []
