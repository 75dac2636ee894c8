use Rattle.pyr_graph.proofs.RowLemmas.{added-same, added-other}
use Rattle.pyr_graph.proofs.edges.add_weight.Goals as goal

pub returns-then-last-task : goal.returns-then-last-task
returns-then-last-task c =
    rw (c.in-Some.ensures, added-same c.pop.new.self c.in-Some.last c.args.task.0 c.args.weight c.if-last-task.true) c.push-then-last-task.ensures.ok

pub returns : goal.returns
returns c =
    rw (c.in-Some.ensures, added-other c.pop.new.self c.in-Some.last c.args.task.0 c.args.weight c.if-last-task.false, ← c.in_ok-push.ensures.ok) c.push-3.ensures.ok
