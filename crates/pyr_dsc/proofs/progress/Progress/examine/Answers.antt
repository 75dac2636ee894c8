use Rattle.std.proofs.Common.{◌≡◌, ◌<◌, ℕ, zero, suc, false, true, length, arith, sym, eqb-true}
use Rattle.std.specs.Prelude.{nat_eq}
use Rattle.pyr_graph.specs.System.{task_numbers}
use Rattle.pyr_dsc.proofs.TrueLemmas.{AreTlevels-true}
use Rattle.pyr_dsc.proofs.KeptLemmas.{IsExamined-now, exits-then, exits-else}
use Rattle.pyr_dsc.proofs.progress.Progress.examine.Goals as goal

some-from_test : (n : ℕ) → nat_eq n 0 ≡ false → 0 < n
some-from_test zero is = absurd (let e : true ≡ false = is in cc)
some-from_test (suc n) is = omega arith

pub finish_of-requires : goal.finish_of-requires
finish_of-requires c =
    IsExamined-now c.args.graph.now c.args.self.now c.requires.progress (task_numbers c.topological-order.result.now) c.topological-order.ensures.order c.examine-cluster.new.self
    c.examine-cluster.ensures.of c.args.task.0 c.args.into c.requires.stands c.examine-cluster.ensures.clusters c.examine-cluster.ensures.others

pub returns-then-is_empty-clause-progress : goal.returns-then-is_empty-clause-progress
returns-then-is_empty-clause-progress c =
    let empty : length c.successors.result.now ≡ 0 = eqb-true _ _ (sym c.if-is_empty.ensures) in
    record {
      of = c.examine-cluster.ensures.of;
      blevels = c.requires.progress.blevels;
      tlevels = AreTlevels-true c.args.graph.now c.examine-cluster.new.self c.examine-cluster.ensures.of (task_numbers c.topological-order.result.now) c.topological-order.ensures.order;
      low_blevels = c.requires.progress.low_blevels;
      exits = rw (c.max-self.ensures, c.finish_of.ensures.kept)
          (exits-then c.args.graph.now c.args.self.now c.requires.progress (task_numbers c.topological-order.result.now) c.topological-order.ensures.order c.examine-cluster.new.self
          c.examine-cluster.ensures.of c.args.task.0 c.args.into c.requires.stands c.examine-cluster.ensures.clusters c.examine-cluster.ensures.others c.requires.next.task
          c.successors.result.now c.successors.ensures empty);
    }

pub returns-else-is_empty-clause-progress : goal.returns-else-is_empty-clause-progress
returns-else-is_empty-clause-progress c =
    let some : 0 < length c.successors.result.now = some-from_test (length c.successors.result.now) (sym c.if-is_empty.ensures) in
    record {
      of = c.examine-cluster.ensures.of;
      blevels = c.requires.progress.blevels;
      tlevels = AreTlevels-true c.args.graph.now c.examine-cluster.new.self c.examine-cluster.ensures.of (task_numbers c.topological-order.result.now) c.topological-order.ensures.order;
      low_blevels = c.requires.progress.low_blevels;
      exits = exits-else c.args.graph.now c.args.self.now c.requires.progress (task_numbers c.topological-order.result.now) c.topological-order.ensures.order c.examine-cluster.new.self
          c.examine-cluster.ensures.of c.args.task.0 c.args.into c.requires.stands c.examine-cluster.ensures.clusters c.examine-cluster.ensures.others
          c.successors.result.now c.successors.ensures some;
    }
