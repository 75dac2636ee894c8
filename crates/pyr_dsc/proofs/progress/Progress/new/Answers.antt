use Rattle.std.proofs.Common.{◌≡◌, [], sym, refl}
use Rattle.pyr_graph.specs.System.{task_numbers}
use Rattle.pyr_levels.specs.Partial.{clusters_of}
use Rattle.pyr_dsc.specs.Run.{state}
use Rattle.pyr_dsc.specs.Progress.{true_levels}
use Rattle.pyr_dsc.proofs.TrueLemmas.{AreTlevels-true}
use Rattle.pyr_dsc.proofs.KeptLemmas.{latest_exit-none}
use Rattle.pyr_dsc.proofs.progress.Progress.new.Goals as goal

pub returns-clause-progress : goal.returns-clause-progress
returns-clause-progress c =
    let s = c.args.graph.now in
    let partial = c.in_ok-partial.partial in
    let none : clusters_of partial ≡ [] = rw c.in_ok-partial.ensures.opened refl in
    record {
      of = c.in_ok-partial.ensures.of;
      blevels = c.in_ok-blevels.ensures.levels;
      tlevels = AreTlevels-true s partial c.in_ok-partial.ensures.of (task_numbers c.topological-order.result.now) c.topological-order.ensures.order;
      low_blevels = c.in_ok-blevels.ensures.small;
      exits = sym (latest_exit-none (state s c.in_ok-blevels.blevels.items (clusters_of partial) (true_levels s partial)) none);
    }
