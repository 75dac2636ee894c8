-- The canonical text of a program.
use Rattle.std.specs.Prelude.{ℕ, List, [], ◌∷◌, ◌++◌, map}
use Rattle.std.specs.List.{flat_map, range_with_len, AllByRecursion}
use Rattle.pyr_num.specs.declared.ids.DatumId.{DatumId}
use Rattle.pyr_num.specs.declared.name.Name.{Name}
use Rattle.pyr_lex.specs.Token.{AreTokens}
use Rattle.pyr_lex.specs.Spacing.{canonical_line}
use Rattle.pyr_body.specs.Lines.{lines_of}
use Rattle.pyr_body.specs.Named.{line_with_names}
use Rattle.pyr_body.specs.Parts.{BodyParts}
use Rattle.pyr_graph.specs.System.{task_count, datum_count, task_at, cost_of, length_of, comm_of}
use Rattle.pyr_graphtext.specs.declared.form.Form.{Form}
use Rattle.pyr_graphtext.specs.declared.form.Form.TheVariants.{Data, Task, Reads, Writes, End, Print}
use Rattle.pyr_graphtext.specs.Line.{Line, Plain, Statement, tokens_of_line}
use Rattle.pyr_graphtext.specs.Program.{ProgramParts, datum_name, task_name, body_at}

-- the names of these data
abbrev pub names_of : ProgramParts → List DatumId → List Name
names_of p datums = map (λ d. datum_name p d.0) datums

-- the names of the data that a task reads, and of those that it writes
abbrev pub read_names : ProgramParts → ℕ → List Name
read_names p t = names_of p (task_at p.graph t).reads

abbrev pub written_names : ProgramParts → ℕ → List Name
written_names p t = names_of p (task_at p.graph t).writes

-- the line of a datum, and of a print
abbrev pub data_line : ProgramParts → ℕ → Line
data_line p d = Plain (Data (datum_name p d) (length_of p.graph d) (comm_of p.graph d))

abbrev pub print_line : Name → Line
print_line name = Plain (Print name)

-- a line of names, and none where there is no name
abbrev pub names_line : (List Name → Form) → List Name → List Line
names_line form [] = []
names_line form (name ∷ names) = Plain (form (name ∷ names)) ∷ []

-- the lines of a body
abbrev pub body_lines : BodyParts → List Name → List Name → List Line
body_lines body reads writes =
    map (λ line. Statement (line_with_names body.locals reads writes line))
    (lines_of body.statements)

-- the first line of a task, its last line, and all: what it reads and writes, and its body
abbrev pub task_head : ProgramParts → ℕ → Line
task_head p t = Plain (Task (task_name p t) (cost_of p.graph t))

abbrev pub task_end : Line
task_end = Plain End

abbrev pub task_lines : ProgramParts → ℕ → List Line
task_lines p t =
    task_head p t
    ∷ (names_line Reads (read_names p t)
    ++ (names_line Writes (written_names p t)
    ++ (body_lines (body_at p t) (read_names p t) (written_names p t) ++ task_end ∷ [])))

-- the data, the tasks and the prints, each in their order
abbrev pub data_lines : ProgramParts → List Line
data_lines p = map (data_line p) (range_with_len 0 (datum_count p.graph))

abbrev pub all_task_lines : ProgramParts → List Line
all_task_lines p = flat_map (task_lines p) (range_with_len 0 (task_count p.graph))

abbrev pub print_lines : ProgramParts → List Line
print_lines p = map print_line (names_of p p.graph.prints)

abbrev pub program_lines : ProgramParts → List Line
program_lines p = data_lines p ++ (all_task_lines p ++ print_lines p)

-- the lines written out, each with its line feed
abbrev pub text_of : List Line → List ℕ
text_of lines = flat_map (λ line. canonical_line (tokens_of_line line) ++ 10 ∷ []) lines

-- the canonical text of a program
abbrev pub program_text : ProgramParts → List ℕ
program_text p = text_of (program_lines p)

-- what is written of each line are tokens
abbrev pub AreLineTokens : List Line → Type 0
AreLineTokens lines = AllByRecursion (λ line. AreTokens (tokens_of_line line)) lines
