-- Parts of a bundle that can be written: names are names, and numbers are of 64 bits.
use Rattle.std.specs.Prelude.{ℕ, ◌<◌, ◌^◌, IsTrue}
use Rattle.std.specs.List.{AllByRecursion}
use Rattle.pyr_num.specs.Name.{is_name}
use Rattle.pyr_code.specs.Tree.{Op, Push, Load, Store, Get, Put, Loop, Code, End, Then}
use Rattle.pyr_bundle.specs.Raw.{tree_of}
use Rattle.pyr_bundle.specs.declared.raw_bundle.RawBundle.{RawBundle}
use Rattle.pyr_bundle.specs.declared.raw_task.RawTask.{RawTask}
use Rattle.pyr_bundle.specs.declared.raw_channel.RawChannel.{RawChannel}
use Rattle.pyr_bundle.specs.declared.raw_instr.RawInstr.{RawInstr}
use Rattle.pyr_bundle.specs.declared.raw_instr.RawInstr.TheVariants.{Recv, Exec, Send}

-- a number of 64 bits
abbrev pub IsWord : ℕ → Type 0
IsWord n = n < 2 ^ 64

abbrev mutual
  pub IsSpelledOp : Op → Type 0
  IsSpelledOp (Push word) = IsWord word
  IsSpelledOp (Load l) = IsWord l
  IsSpelledOp (Store l) = IsWord l
  IsSpelledOp (Get slot) = IsWord slot
  IsSpelledOp (Put output) = IsWord output
  IsSpelledOp (Loop l count turn) = IsWord l × IsWord count × IsSpelledCode turn
  IsSpelledOp _ = Unit {0}

  pub IsSpelledCode : Code → Type 0
  IsSpelledCode End = Unit {0}
  IsSpelledCode (Then op rest) = IsSpelledOp op × IsSpelledCode rest

pub record IsSpelledTask (task : RawTask) : Type 0 where
  pub reads : AllByRecursion IsWord task.reads
  pub writes : AllByRecursion IsWord task.writes
  pub code : IsSpelledCode (tree_of task)

abbrev pub IsSpelledChannel : RawChannel → Type 0
IsSpelledChannel c = IsWord c.from × IsWord c.to × IsWord c.capacity

abbrev pub IsSpelledInstr : RawInstr → Type 0
IsSpelledInstr (Recv from d) = IsWord from × IsWord d
IsSpelledInstr (Exec t) = IsWord t
IsSpelledInstr (Send to d) = IsWord to × IsWord d

pub record IsSpelled (raw : RawBundle) : Type 0 where
  pub names : AllByRecursion (λ d. IsTrue (is_name d.name)) raw.datums
  pub tasks : AllByRecursion IsSpelledTask raw.tasks
  pub prints : AllByRecursion IsWord raw.prints
  pub channels : AllByRecursion IsSpelledChannel raw.channels
  pub code : AllByRecursion (AllByRecursion IsSpelledInstr) raw.code
