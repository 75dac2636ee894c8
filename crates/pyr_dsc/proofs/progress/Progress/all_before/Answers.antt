use Rattle.pyr_graph.proofs.NumberLemmas.{tests_agree}
use Rattle.pyr_dsc.specs.Progress.{true_levels}
use Rattle.pyr_dsc.proofs.TableLemmas.{next-all, all-next}
use Rattle.pyr_dsc.proofs.progress.Progress.all_before.Goals as goal

pub returns : goal.returns
returns c =
    let p = c.args.self.now in
    let s = c.args.graph.now in
    let of = c.requires.progress.of in
    let are = c.requires.progress.tlevels in
    tests_agree c.is_next.result _
    (λ is. next-all s p.partial of p.blevels.items (true_levels s p.partial) are c.args.task.0 (c.is_next.ensures.0 is))
    (λ all. c.is_next.ensures.1 (all-next s p.partial of p.blevels.items (true_levels s p.partial) are c.args.task.0 c.requires.task c.requires.new all))
