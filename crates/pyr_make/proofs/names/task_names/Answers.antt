use Rattle.std.proofs.Common.{arith}
use Rattle.pyr_make.specs.Layered.{layered_task_name}
use Rattle.pyr_make.proofs.MadeLists.{made_on, made_whole}
use Rattle.pyr_make.proofs.NameLemmas.{task_is_named}
use Rattle.pyr_make.proofs.names.task_names.Goals as goal

pub numbered-requires : goal.numbered-requires
numbered-requires c = task_is_named c.loop-task.task (omega (arith, c.loop-task-test.true, c.ranges.tasks))

pub loop-task-init : goal.loop-task-init
loop-task-init c = c.in_ok-names.ensures.items

pub loop-task-preserved : goal.loop-task-preserved
loop-task-preserved c = made_on layered_task_name c.loop-task.task c.loop-task.names.items c.push.new.self.items _ c.loop-task.invariant c.in_ok-numbered.ensures c.in_ok-push.ensures.items

pub returns : goal.returns
returns c = made_whole layered_task_name c.loop-task.task c.args.tasks c.loop-task.names.items c.loop-task-test.false c.loop-task.auto.task-end c.loop-task.invariant
