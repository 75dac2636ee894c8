use Rattle.pyr_make.specs.Layered.{layered_task}
use Rattle.pyr_make.proofs.MadeLists.{made_on, made_whole}
use Rattle.pyr_make.proofs.lists.task_list.Goals as goal

pub loop-task-init : goal.loop-task-init
loop-task-init c = c.in_ok-list.ensures.items

pub loop-task-preserved : goal.loop-task-preserved
loop-task-preserved c = made_on layered_task c.loop-task.task c.loop-task.list.items c.push.new.self.items _ c.loop-task.invariant c.in_ok-task_parts.ensures c.in_ok-push.ensures.items

pub returns : goal.returns
returns c = made_whole layered_task c.loop-task.task c.args.tasks c.loop-task.list.items c.loop-task-test.false c.loop-task.auto.task-end c.loop-task.invariant
