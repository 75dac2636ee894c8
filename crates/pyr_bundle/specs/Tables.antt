-- What the private steps of building a bundle rest on. No public clause cites this.
use Rattle.std.specs.Prelude.{◌≡◌, ℕ, ◌<◌, ◌^◌, Option, Some, None, IfSome}
use Rattle.pyr_code.specs.declared.code_fault.CodeFault.TheVariants.{BadCode}
use Rattle.pyr_code.specs.declared.code_fault.BadKind.{BadKind}
use Rattle.pyr_bundle.specs.declared.bundle_fault.BundleFault.{BundleFault}
use Rattle.pyr_bundle.specs.declared.bundle_fault.BundleFault.TheVariants.{Law as LawFault, Memory}
use Rattle.pyr_bundle.specs.declared.raw_task.RawTask.{RawTask}
use Rattle.pyr_bundle.specs.declared.raw_channel.RawChannel.{RawChannel}
use Rattle.pyr_bundle.specs.declared.raw_instr.RawInstr.{RawInstr}
use Rattle.pyr_bundle.specs.declared.raw_instr.RawInstr.TheVariants.{Recv, Exec, Send}
use Rattle.pyr_bundle.specs.Laws.{code_fault_of}

-- the datum that an instruction receives
abbrev pub received : RawInstr → Option ℕ
received (Recv from d) = Some d
received _ = None

-- the task that it executes
abbrev pub executed : RawInstr → Option ℕ
executed (Exec t) = Some t
executed _ = None

-- the destination and the datum of a send
abbrev pub sent : RawInstr → Option (ℕ × ℕ)
sent (Send to d) = Some (to, d)
sent _ = None

-- the instruction executes no task from this number on
abbrev pub IsExecBelow : ℕ → RawInstr → Type 0
IsExecBelow count instr = IfSome (executed instr) (λ t. t < count)

-- the instruction sends to no processor from this number on
abbrev pub IsSendBelow : ℕ → RawInstr → Type 0
IsSendBelow count instr = IfSome (sent instr) (λ pair. pair.0 < count)

-- the number fits an id
abbrev pub FitsId : ℕ → Type 0
FitsId n = n < 2 ^ 32

-- the numbers of an instruction, of a channel, fit ids
abbrev pub HasIds : RawInstr → Type 0
HasIds (Recv from d) = FitsId from × FitsId d
HasIds (Exec t) = FitsId t
HasIds (Send to d) = FitsId to × FitsId d

abbrev pub HasSmallNumbers : RawChannel → Type 0
HasSmallNumbers c = FitsId c.from × FitsId c.to × FitsId c.capacity

-- Why the code of task t is refused: this is its first fault. Want of memory may come at any point.
abbrev pub IsCodeFault : ℕ → RawTask → BundleFault → Type 0
IsCodeFault t task (LawFault number a b) =
    (number ≡ 4) × (a ≡ t) × (kind : BadKind) × (code_fault_of task ≡ Some (BadCode b kind))
IsCodeFault t task Memory = Unit {0}
