-- The generated program: tasks in layers of 64, each behind two tasks of the layer before.
use Rattle.std.specs.Prelude.{ℕ, ◌+◌, ◌-◌, ◌*◌, ◌/◌, ◌%◌, nat_eq, nat_lt, if◌then◌else◌, List, [], ◌∷◌, ◌++◌, length, map, filter, codes, decimal}
use Rattle.std.specs.List.{range_with_len, position_or_len}
use Rattle.pyr_num.specs.declared.arithmetic.Bin.TheVariants.{Add, Mul}
use Rattle.pyr_num.specs.declared.ids.DatumId.{DatumId}
use Rattle.pyr_num.specs.declared.name.Name.{Name}
use Rattle.pyr_body.specs.Tree.{Expr, Num, Frame, Get, Bin, Put, End, Then}
use Rattle.pyr_body.specs.Parts.{BodyParts}
use Rattle.pyr_graph.specs.declared.parts.TaskParts.{TaskParts}
use Rattle.pyr_graph.specs.declared.parts.DatumParts.{DatumParts}
use Rattle.pyr_graph.specs.System.{System, system_of}
use Rattle.pyr_graphtext.specs.Program.{ProgramParts, program_of}

-- the layer of a task, and its column there
abbrev pub layer_of : ℕ → ℕ
layer_of t = t / 64

abbrev pub column_of : ℕ → ℕ
column_of t = t % 64

-- The two predecessors of a task behind the first layer, both in the layer before: the task of its
-- own column, and one whose column is five further for each column, and one further for each layer.
abbrev pub first_predecessor : ℕ → ℕ
first_predecessor t = t - 64

abbrev pub second_predecessor : ℕ → ℕ
second_predecessor t = 64 * (layer_of t - 1) + (5 * column_of t + layer_of t) % 64

-- two numbers by rising number, and once where they are equal
abbrev pub in_order : ℕ → ℕ → List ℕ
in_order a b =
    if nat_eq a b then a ∷ [] else if nat_lt a b then a ∷ b ∷ [] else b ∷ a ∷ []

-- the data that a task reads: those of its two predecessors; in the first layer none
abbrev pub layered_reads : ℕ → List ℕ
layered_reads t =
    if nat_lt t 64 then [] else in_order (first_predecessor t) (second_predecessor t)

-- these numbers as those of data
abbrev pub as_datums : List ℕ → List DatumId
as_datums numbers = map (λ n. record { 0 = n }) numbers

-- a task, which writes the datum of its own number
abbrev pub layered_task : ℕ → TaskParts
layered_task t = record {
  cost = 1 + (37 * t) % 97;
  reads = as_datums (layered_reads t);
  writes = as_datums (t ∷ []);
}

-- a datum, of one word
abbrev pub layered_datum : ℕ → DatumParts
layered_datum d = record { length = 1; comm = (53 * d) % 61 }

-- the word of a datum that a task reads: the data that it reads are its first slots
abbrev pub word_read : ℕ → ℕ → Expr
word_read t d = Get (position_or_len (nat_eq d) (layered_reads t)) (Num 0)

-- what a task writes: in the first layer `(frame + t)`, else `((a * 3) + (b + t))` of the words a
-- and b of its predecessors
abbrev pub layered_value : ℕ → Expr
layered_value t =
    if nat_lt t 64
    then Bin Add Frame (Num t)
    else Bin Add (Bin Mul (word_read t (first_predecessor t)) (Num 3))
    (Bin Add (word_read t (second_predecessor t)) (Num t))

-- the body of a task: it puts this value into the one word that the task writes
abbrev pub layered_body : ℕ → BodyParts
layered_body t = record {
  statements = Then (Put 0 (Num 0) (layered_value t)) End;
  locals = [];
  reads = length (layered_reads t);
  writes = 1;
}

-- the printed data where there are so many tasks: those of the last layer, by rising number
abbrev pub layered_prints : ℕ → List ℕ
layered_prints tasks =
    filter (λ d. nat_eq (layer_of d) (layer_of (tasks - 1))) (range_with_len 0 tasks)

-- the names `d0`, `d1` and so on of the data, and `t0`, `t1` and so on of the tasks
abbrev pub layered_datum_name : ℕ → Name
layered_datum_name d = codes "d" ++ decimal d

abbrev pub layered_task_name : ℕ → Name
layered_task_name t = codes "t" ++ decimal t

-- the graph of so many tasks, and the program
abbrev pub layered_system : ℕ → System
layered_system tasks =
    system_of (map layered_task (range_with_len 0 tasks))
    (map layered_datum (range_with_len 0 tasks))
    (as_datums (layered_prints tasks))

unfoldable pub layered_program : ℕ → ProgramParts
layered_program tasks =
    program_of (layered_system tasks)
    (map layered_datum_name (range_with_len 0 tasks))
    (map layered_task_name (range_with_len 0 tasks))
    (map layered_body (range_with_len 0 tasks))
