-- A line as it is read of its bytes, for the private steps. No public clause cites this.
use Rattle.std.specs.Prelude.{◌≡◌, ℕ, List, [], ◌∷◌, ◌++◌, ◌==◌, Bool, not, Option, Some, None, find, codes, bytes_eq, IsTrue, if◌then◌else◌}
use Rattle.std.specs.Borrow.{Bor}
use Rattle.std.specs.List.{list_all}
use Rattle.std.specs.Option.{option_map}
use Rattle.pyr_num.specs.declared.arithmetic.Bin.TheVariants.{Add, Sub, Mul, Div, Rem, And, Or, Xor, Shl, Shr, Min, Max, Eq, Lt}
use Rattle.pyr_num.specs.Name.{is_name}
use Rattle.pyr_decimal.specs.Number.{number_of}
use Rattle.pyr_bundle.specs.declared.raw_instr.RawInstr.TheVariants as instrs
use Rattle.pyr_bundletext.specs.declared.plain_op.PlainOp.TheVariants as ops
use Rattle.pyr_bundletext.specs.declared.line.Line.{Line}
use Rattle.pyr_bundletext.specs.declared.line.Line.TheVariants as lines
use Rattle.pyr_bundletext.specs.declared.keyword.Keyword.{Keyword}
use Rattle.pyr_bundletext.specs.declared.keyword.Keyword.TheVariants.{Pyrros, Processors, Task, Reads, Writes, Push, Load, Store, Frame, Get, Put, Bin, Sel, Loop, Done, End, Print, Channel, Processor, Recv, Exec, Send, Stop}
use Rattle.pyr_bundletext.specs.Text.{operator_word}

-- the byte doesn't stand in the text
abbrev pub lacks : ℕ → List ℕ → Bool
lacks byte text = list_all (λ b. not (b == byte)) text

-- the text begins with this line and its line feed
pub record IsCut (text line rest : List ℕ) : Type 0 where
  pub parts : text ≡ line ++ 10 ∷ rest
  pub first : IsTrue (lacks 10 line)

-- The words of a line: the pieces between spaces.
abbrev pub onto_first : ℕ → List (List ℕ) → List (List ℕ)
onto_first b [] = (b ∷ []) ∷ []
onto_first b (w ∷ ws) = (b ∷ w) ∷ ws

unfoldable pub split : List ℕ → List (List ℕ)
split [] = [] ∷ []
split (b ∷ bs) = if b == 32 then [] ∷ split bs else onto_first b (split bs)

-- the words of what stands behind a space, and none where there is no space
abbrev pub words_of : Option (Bor (List ℕ)) → List (List ℕ)
words_of None = []
words_of (Some bytes) = split bytes.now

-- the words that begin lines, but for that of a datum
abbrev pub keyword_text : Keyword → List ℕ
keyword_text Pyrros = codes "pyrros"
keyword_text Processors = codes "processors"
keyword_text Task = codes "task"
keyword_text Reads = codes "reads"
keyword_text Writes = codes "writes"
keyword_text Push = codes "push"
keyword_text Load = codes "load"
keyword_text Store = codes "store"
keyword_text Frame = codes "frame"
keyword_text Get = codes "get"
keyword_text Put = codes "put"
keyword_text (Bin operator) = operator_word operator
keyword_text Sel = codes "sel"
keyword_text Loop = codes "loop"
keyword_text Done = codes "done"
keyword_text End = codes "end"
keyword_text Print = codes "print"
keyword_text Channel = codes "channel"
keyword_text Processor = codes "processor"
keyword_text Recv = codes "recv"
keyword_text Exec = codes "exec"
keyword_text Send = codes "send"
keyword_text Stop = codes "stop"

abbrev pub keywords : List Keyword
keywords =
    Push ∷ Load ∷ Store ∷ Frame ∷ Get ∷ Put ∷ Bin Add ∷ Bin Sub ∷ Bin Mul ∷ Bin Div ∷ Bin Rem
    ∷ Bin And ∷ Bin Or ∷ Bin Xor ∷ Bin Shl ∷ Bin Shr ∷ Bin Min ∷ Bin Max ∷ Bin Eq ∷ Bin Lt ∷ Sel
    ∷ Loop ∷ Done ∷ Recv ∷ Exec ∷ Send ∷ Task ∷ Reads ∷ Writes ∷ End ∷ Print ∷ Channel ∷ Processor
    ∷ Processors ∷ Pyrros ∷ Stop ∷ []

-- the keyword with this text, if one has it
abbrev pub keyword_of : List ℕ → Option Keyword
keyword_of text = find (λ k. bytes_eq (keyword_text k) text) keywords

-- the numbers that these words are, if all of them are numbers
abbrev pub more_numbers : Option ℕ → Option (List ℕ) → Option (List ℕ)
more_numbers None ns = None
more_numbers (Some n) ns = option_map (λ rest. n ∷ rest) ns

abbrev pub numbers_of : List (List ℕ) → Option (List ℕ)
numbers_of [] = Some []
numbers_of (w ∷ ws) = more_numbers (number_of w) (numbers_of ws)

-- the line of a keyword and so many numbers
abbrev pub with_none : Keyword → Option Line
with_none Frame = Some (lines.Plain ops.Frame)
with_none (Bin operator) = Some (lines.Plain (ops.Bin operator))
with_none Sel = Some (lines.Plain ops.Sel)
with_none Done = Some lines.Done
with_none End = Some lines.End
with_none Stop = Some lines.Stop
with_none _ = None

abbrev pub with_one : Keyword → ℕ → Option Line
with_one Pyrros n = if n == 1 then Some lines.Pyrros else None
with_one Processors n = Some (lines.Processors n)
with_one Task n = Some (lines.Task n)
with_one Push n = Some (lines.Plain (ops.Push n))
with_one Load n = Some (lines.Plain (ops.Load n))
with_one Store n = Some (lines.Plain (ops.Store n))
with_one Get n = Some (lines.Plain (ops.Get n))
with_one Put n = Some (lines.Plain (ops.Put n))
with_one Print n = Some (lines.Print n)
with_one Processor n = Some (lines.Processor n)
with_one Exec n = Some (lines.Instr (instrs.Exec n))
with_one _ n = None

abbrev pub with_two : Keyword → ℕ → ℕ → Option Line
with_two Loop m n = Some (lines.Loop m n)
with_two Recv m n = Some (lines.Instr (instrs.Recv m n))
with_two Send m n = Some (lines.Instr (instrs.Send m n))
with_two _ m n = None

abbrev pub with_three : Keyword → ℕ → ℕ → ℕ → Option Line
with_three Channel l m n =
    Some (lines.Channel (record { from = l; to = m; capacity = n }))
with_three _ l m n = None

abbrev pub with_numbers : Keyword → List ℕ → Option Line
with_numbers k [] = with_none k
with_numbers k (n ∷ []) = with_one k n
with_numbers k (m ∷ n ∷ []) = with_two k m n
with_numbers k (l ∷ m ∷ n ∷ []) = with_three k l m n
with_numbers k (l ∷ m ∷ n ∷ o ∷ rest) = None

abbrev pub line_with : Keyword → List ℕ → Option Line
line_with Reads ns = Some (lines.Reads ns)
line_with Writes ns = Some (lines.Writes ns)
line_with k ns = with_numbers k ns

-- the line of a keyword and these words behind it
abbrev pub line_behind : Keyword → Option (List ℕ) → Option Line
line_behind k None = None
line_behind k (Some ns) = line_with k ns

abbrev pub numbered_line : Option Keyword → List (List ℕ) → Option Line
numbered_line None others = None
numbered_line (Some k) others = line_behind k (numbers_of others)

-- the line of a datum with this name and length
abbrev pub datum_with : List ℕ → Option ℕ → Option Line
datum_with name None = None
datum_with name (Some n) = if is_name name then Some (lines.Datum name n) else None

abbrev pub datum_line : List (List ℕ) → Option Line
datum_line [] = None
datum_line (name ∷ []) = None
datum_line (name ∷ number ∷ []) = datum_with name (number_of number)
datum_line (name ∷ number ∷ other ∷ others) = None

-- the line of these words
abbrev pub line_in : List (List ℕ) → Option Line
line_in [] = None
line_in (word ∷ others) =
    if bytes_eq word (codes "datum") then datum_line others
    else numbered_line (keyword_of word) others

-- the line of these bytes
abbrev pub line_of : List ℕ → Option Line
line_of bytes = line_in (split bytes)
