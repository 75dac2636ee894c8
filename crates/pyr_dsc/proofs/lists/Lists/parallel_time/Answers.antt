use Rattle.std.proofs.Common.{◌≡◌, arith, ap, ◌∙◌}
use Rattle.pyr_graph.specs.System.{task_count, task_numbers}
use Rattle.pyr_dsc.specs.State.{is_free, is_partly_free, priority, partial_priority}
use Rattle.pyr_dsc.specs.Rules.{next_free, next_partly_free}
use Rattle.pyr_dsc.specs.Heads.{key_of_head}
use Rattle.pyr_dsc.specs.Time.{key_of, greatest_of_three}
use Rattle.pyr_dsc.specs.Progress.{state_of, true_levels}
use Rattle.pyr_dsc.proofs.QueueLemmas.{key_of-head}
use Rattle.pyr_dsc.proofs.TableLemmas.{IsClosed-partial}
use Rattle.pyr_dsc.proofs.TimeLemmas.{three-is_time}
use Rattle.pyr_dsc.proofs.ExitLemmas.{exits-decide}
use Rattle.pyr_dsc.proofs.lists.Lists.parallel_time.Goals as goal

pub returns : goal.returns
returns c =
    let s = c.args.graph.now in
    let p = c.args.progress.now in
    let z = state_of s p in
    let is = c.requires.progress in
    let order = task_numbers c.topological-order.result.now in
    let top = c.topological-order.ensures.order in
    let closed = IsClosed-partial s p.partial is.of p.blevels.items (true_levels s p.partial) is.tlevels in
    let free : c.key_of-free.result ≡ key_of (priority z) (next_free z) =
    c.key_of-free.ensures
    ∙ (ap key_of_head (c.head_in.ensures (is_free z) (priority z) (task_count s) c.requires.lists.free)
    ∙ key_of-head (priority z) (next_free z)) in
    let partly_free : c.key_of-partly_free.result ≡ key_of (partial_priority z) (next_partly_free z) =
    c.key_of-partly_free.ensures
    ∙ (ap key_of_head (c.head_in-2.ensures (is_partly_free z) (partial_priority z) (task_count s) c.requires.lists.partly_free)
    ∙ key_of-head (partial_priority z) (next_partly_free z)) in
    let three : c.max-2.result ≡ greatest_of_three z =
    omega (arith, c.max.ensures, c.max-2.ensures, free, partly_free, is.exits, exits-decide z order top is.blevels is.tlevels closed) in
    rw three (three-is_time z order c.requires.some top is.blevels is.tlevels closed)
