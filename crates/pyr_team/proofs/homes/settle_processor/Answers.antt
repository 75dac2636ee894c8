use Rattle.std.proofs.Common.{◌+◌, ap, arith, refl, sym, subst, length, List}
use Rattle.pyr_bundle.specs.declared.instr.Instr.{Instr}
use Rattle.pyr_bundle.specs.declared.instr.Instr.TheVariants.{Recv, Exec}
use Rattle.pyr_bundle.specs.Parts.{datum_id, proc_id}
use Rattle.pyr_team.proofs.HomeLemmas.{Covers, stands, covers_more, covers_still}
use Rattle.pyr_team.proofs.homes.settle_processor.Goals as goal
use Rattle.pyr_team.proofs.homes.settle_processor.Goals.{in-Exec, in_default}

pub settle_task-requires-clause-task : goal.settle_task-requires-clause-task
settle_task-requires-clause-task c =
    c.well_formed-2.ensures.instrs c.args.p.0 c.loop-i.i (Exec c.in-Exec.task) (stands c.args.bundle.now c.args.p.0 c.loop-i.i c.code-code.result.now _ _ c.code-code.ensures c.loop-i-test.true c.in-Exec.is)

pub settle_task-requires-clause-here : goal.settle_task-requires-clause-here
settle_task-requires-clause-here c = (c.loop-i.i, stands c.args.bundle.now c.args.p.0 c.loop-i.i c.code-code.result.now _ _ c.code-code.ensures c.loop-i-test.true c.in-Exec.is)

pub loop-i-preserved : goal.loop-i-preserved
loop-i-preserved c = elim c.match-code-i.branch [
  | in-Exec w ↦
      subst (Covers c.args.bundle.now c.args.p.0 (c.loop-i.i + 1) c.args.homes.now) (sym w.homes-is)
      (covers_more c.args.bundle.now c.args.p.0 c.loop-i.i w.in-Exec.task c.args.homes.now c.loop-i.homes w.settle_task.new.homes c.loop-i.invariant
      (stands c.args.bundle.now c.args.p.0 c.loop-i.i c.code-code.result.now _ _ c.code-code.ensures c.loop-i-test.true w.in-Exec.is) w.settle_task.auto.homes w.settle_task.ensures.kept w.settle_task.ensures.settled)
  | in_default w ↦
      subst (Covers c.args.bundle.now c.args.p.0 (c.loop-i.i + 1) c.args.homes.now) (sym w.homes-is)
      (covers_still c.args.bundle.now c.args.p.0 c.loop-i.i _ c.args.homes.now c.loop-i.homes c.loop-i.invariant
      (stands c.args.bundle.now c.args.p.0 c.loop-i.i c.code-code.result.now (Recv (proc_id 0) (datum_id 0)) _ c.code-code.ensures c.loop-i-test.true refl) w.in_default.not-Exec)
]

pub returns-clause-settled : goal.returns-clause-settled
returns-clause-settled c i t l exec =
    c.loop-i.invariant.have i t (let n = c.loop-i-test.false in let m = ap (λ (v : List Instr). length v) c.code-code.ensures in omega arith) exec
