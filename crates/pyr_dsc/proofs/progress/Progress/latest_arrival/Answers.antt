use Rattle.std.proofs.Common.{arith, ◌∙◌}
use Rattle.pyr_dsc.specs.Progress.{true_levels}
use Rattle.pyr_dsc.proofs.TableLemmas.{new-partial, free-kept, arrival-kept, arrival-low}
use Rattle.pyr_dsc.proofs.progress.Progress.latest_arrival.Goals as goal

pub arrival-requires-clause-room : goal.arrival-requires-clause-room
arrival-requires-clause-room c = omega (arith, c.requires.task, c.requires.progress.of.room)

pub arrival-requires-clause-new : goal.arrival-requires-clause-new
arrival-requires-clause-new c =
    let p = c.args.self.now in
    let s = c.args.graph.now in
    new-partial s p.partial c.requires.progress.of p.blevels.items (true_levels s p.partial) c.requires.progress.tlevels c.args.task.0 c.requires.new

pub returns : goal.returns
returns c =
    let p = c.args.self.now in
    let s = c.args.graph.now in
    let of = c.requires.progress.of in
    let are = c.requires.progress.tlevels in
    record {
      exact = c.arrival.ensures.kept ∙ arrival-kept s p.partial of p.blevels.items (true_levels s p.partial) are c.args.task.0 c.requires.task c.requires.new;
      free = λ is. c.arrival.ensures.kept ∙ free-kept s p.partial of p.blevels.items (true_levels s p.partial) are c.args.task.0 c.requires.task is;
      low = rw c.arrival.ensures.kept
          (arrival-low s p.partial of p.blevels.items (true_levels s p.partial) are c.well_formed-2.ensures.limits c.args.task.0 c.requires.task c.requires.new);
    }
