-- The lines of a bundle text, as they are written. A line is a head and numbers behind it.
use Rattle.std.specs.Prelude.{ℕ, ◌<◌, ◌^◌, List, [], ◌∷◌, ◌++◌, codes, IsTrue}
use Rattle.std.specs.List.{AllByRecursion}
use Rattle.pyr_num.specs.Name.{is_name}
use Rattle.pyr_bundle.specs.declared.raw_instr.RawInstr.{RawInstr}
use Rattle.pyr_bundle.specs.declared.raw_instr.RawInstr.TheVariants.{Recv, Exec, Send}
use Rattle.pyr_bundletext.specs.declared.plain_op.PlainOp.{PlainOp}
use Rattle.pyr_bundletext.specs.declared.plain_op.PlainOp.TheVariants.{Push, Load, Store, Frame, Get, Put, Bin, Sel}
use Rattle.pyr_bundletext.specs.declared.line.Line.{Line}
use Rattle.pyr_bundletext.specs.declared.line.Line.TheVariants.{Pyrros, Processors, Datum, Task, Reads, Writes, Plain, Loop, Done, End, Print, Channel, Processor, Instr, Stop}
use Rattle.pyr_bundletext.specs.Text.{line, operator_word}

-- the word of an op, and the numbers behind it
abbrev pub op_word : PlainOp → List ℕ
op_word (Push word) = codes "push"
op_word (Load l) = codes "load"
op_word (Store l) = codes "store"
op_word Frame = codes "frame"
op_word (Get slot) = codes "get"
op_word (Put output) = codes "put"
op_word (Bin operator) = operator_word operator
op_word Sel = codes "sel"

abbrev pub op_numbers : PlainOp → List ℕ
op_numbers (Push word) = word ∷ []
op_numbers (Load l) = l ∷ []
op_numbers (Store l) = l ∷ []
op_numbers Frame = []
op_numbers (Get slot) = slot ∷ []
op_numbers (Put output) = output ∷ []
op_numbers (Bin operator) = []
op_numbers Sel = []

-- the word of an instruction, and the numbers behind it
abbrev pub instr_word : RawInstr → List ℕ
instr_word (Recv from d) = codes "recv"
instr_word (Exec t) = codes "exec"
instr_word (Send to d) = codes "send"

abbrev pub instr_numbers : RawInstr → List ℕ
instr_numbers (Recv from d) = from ∷ d ∷ []
instr_numbers (Exec t) = t ∷ []
instr_numbers (Send to d) = to ∷ d ∷ []

-- what stands before the numbers of a line
abbrev pub head_text : Line → List ℕ
head_text Pyrros = codes "pyrros"
head_text (Processors count) = codes "processors"
head_text (Datum name words) = codes "datum " ++ name
head_text (Task locals) = codes "task"
head_text (Reads datums) = codes "reads"
head_text (Writes datums) = codes "writes"
head_text (Plain op) = op_word op
head_text (Loop l count) = codes "loop"
head_text Done = codes "done"
head_text End = codes "end"
head_text (Print d) = codes "print"
head_text (Channel c) = codes "channel"
head_text (Processor p) = codes "processor"
head_text (Instr instr) = instr_word instr
head_text Stop = codes "stop"

-- the numbers of a line
abbrev pub line_numbers : Line → List ℕ
line_numbers Pyrros = 1 ∷ []
line_numbers (Processors count) = count ∷ []
line_numbers (Datum name words) = words ∷ []
line_numbers (Task locals) = locals ∷ []
line_numbers (Reads datums) = datums
line_numbers (Writes datums) = datums
line_numbers (Plain op) = op_numbers op
line_numbers (Loop l count) = l ∷ count ∷ []
line_numbers Done = []
line_numbers End = []
line_numbers (Print d) = d ∷ []
line_numbers (Channel c) = c.from ∷ c.to ∷ c.capacity ∷ []
line_numbers (Processor p) = p ∷ []
line_numbers (Instr instr) = instr_numbers instr
line_numbers Stop = []

-- a line with its line feed
abbrev pub line_text : Line → List ℕ
line_text l = line (head_text l) (line_numbers l)

-- every number is a word, and a name is one
abbrev pub IsNamed : Line → Type 0
IsNamed (Datum name words) = IsTrue (is_name name)
IsNamed _ = Unit {0}

abbrev pub AreWords : List ℕ → Type 0
AreWords numbers = AllByRecursion (λ n. n < 2 ^ 64) numbers

pub record IsLine (l : Line) : Type 0 where
  pub named : IsNamed l
  pub words : AreWords (line_numbers l)

-- the lines one after another, of which the newest stands first
abbrev pub text_said : List Line → List ℕ
text_said [] = []
text_said (l ∷ older) = text_said older ++ line_text l
