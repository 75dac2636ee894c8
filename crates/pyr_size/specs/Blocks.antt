-- Where the block of a task stands in a bundle, and the steps of the blocks one after another.
use Rattle.std.specs.Prelude.{◌≡◌, ℕ, ◌+◌, ◌<◌, ◌==◌, Bool, false, if◌then◌else◌, List, [], ◌∷◌, length, slice_index_or, slice_set}
use Rattle.std.specs.List.{list_any, flat_map}
use Rattle.pyr_bundle.specs.declared.instr.Instr.{Instr}
use Rattle.pyr_bundle.specs.declared.instr.Instr.TheVariants.{Recv, Exec, Send}
use Rattle.pyr_bundle.specs.Parts.{Parts, task_count, code_at}
use Rattle.pyr_machine.specs.Schedule.{again}
use Rattle.pyr_size.specs.declared.blocks.Block.{Block}

-- the instruction executes this task
abbrev pub is_exec_of : ℕ → Instr → Bool
is_exec_of t (Recv from d) = false
is_exec_of t (Exec u) = u.0 == t
is_exec_of t (Send to d) = false

-- how many sends these instructions begin with
abbrev pub leading_sends : List Instr → ℕ
leading_sends [] = 0
leading_sends (Recv from d ∷ code) = 0
leading_sends (Exec t ∷ code) = 0
leading_sends (Send to d ∷ code) = leading_sends code + 1

-- How many instructions the block of t has: the receives directly before its exec, the exec, and the
-- sends directly behind it. So many receives stand directly before this code.
abbrev pub block_size : ℕ → ℕ → List Instr → ℕ
block_size t receives [] = 0
block_size t receives (Recv from d ∷ code) = block_size t (receives + 1) code
block_size t receives (Exec u ∷ code) =
    if u.0 == t then receives + 1 + leading_sends code else block_size t 0 code
block_size t receives (Send to d ∷ code) = block_size t 0 code

-- the first of these codes that executes the task; they are numbered from p
abbrev pub home_from : ℕ → ℕ → List (List Instr) → ℕ
home_from t p [] = 0
home_from t p (code ∷ codes) =
    if list_any (is_exec_of t) code then p else home_from t (p + 1) codes

-- the processor that executes a task
abbrev pub home : Parts → ℕ → ℕ
home b t = home_from t 0 b.code

-- the processor of the block of a task, once for each instruction of it
abbrev pub block_turns : Parts → ℕ → List ℕ
block_turns b t = again (block_size t 0 (code_at b (home b t))) (home b t)

-- the processors of all instructions, block by block, the tasks in this order
abbrev pub order_schedule : Parts → List ℕ → List ℕ
order_schedule b order = flat_map (block_turns b) order

-- Tables of blocks, as the code fills them. No public clause cites what follows.

abbrev pub no_block : Block
no_block = record { processor = 0; size = 0 }

-- the table after the blocks of this code of p, before which so many receives stand
abbrev pub noted : ℕ → ℕ → List Instr → List Block → List Block
noted p receives [] blocks = blocks
noted p receives (Recv from d ∷ code) blocks = noted p (receives + 1) code blocks
noted p receives (Exec t ∷ code) blocks =
    noted p 0 code
    (slice_set blocks t.0 (record { processor = p; size = receives + 1 + leading_sends code }))
noted p receives (Send to d ∷ code) blocks = noted p 0 code blocks

-- the block of a task
abbrev pub block_of : Parts → ℕ → Block
block_of b t =
    record { processor = home b t; size = block_size t 0 (code_at b (home b t)) }

-- the table has the block of each task
pub record AreBlocks (b : Parts) (blocks : List Block) : Type 0 where
  pub count : length blocks ≡ task_count b
  pub each : (t : ℕ) → t < task_count b → slice_index_or blocks t no_block ≡ block_of b t
