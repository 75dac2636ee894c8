use Rattle.std.proofs.Common.{◌∙◌}
use Rattle.pyr_dsc.specs.Progress.{true_levels}
use Rattle.pyr_dsc.proofs.TableLemmas.{in-partial, finish-kept, finish-low}
use Rattle.pyr_dsc.proofs.progress.Progress.finish.Goals as goal

pub finish_of-requires : goal.finish_of-requires
finish_of-requires c =
    let p = c.args.self.now in
    let s = c.args.graph.now in
    in-partial s p.partial c.requires.progress.of p.blevels.items (true_levels s p.partial) c.requires.progress.tlevels c.args.task.0 c.requires.examined

pub returns : goal.returns
returns c =
    let p = c.args.self.now in
    let s = c.args.graph.now in
    record {
      exact =
          c.finish_of.ensures.kept
          ∙ finish-kept s p.partial c.requires.progress.of p.blevels.items (true_levels s p.partial) c.requires.progress.tlevels c.args.task.0 c.requires.examined;
      low = rw c.finish_of.ensures.kept
          (finish-low s p.partial c.requires.progress.of p.blevels.items (true_levels s p.partial) c.requires.progress.tlevels c.well_formed-2.ensures.limits c.args.task.0 c.requires.examined);
    }
