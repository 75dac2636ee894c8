use Rattle.std.proofs.Common.{◌≢◌, List, sym, subst}
use Rattle.std.specs.Prelude.{AllPairs}
use Rattle.pyr_num.specs.declared.ids.DatumId.{DatumId}
use Rattle.pyr_graph.specs.System.{datum_count, datum_numbers, task_at}
use Rattle.pyr_emit.proofs.RisingLemmas.{held_is, held_below}
use Rattle.pyr_emit.proofs.rising.data_read.Goals as goal

pub rising-requires : goal.rising-requires
rising-requires c =
    subst (λ (l : List DatumId). AllPairs (λ d e. d ≢ e) (datum_numbers l)) (sym c.reads.ensures) (c.well_formed-2.ensures.reads_once c.args.task.0)

pub returns : goal.returns
returns c =
    let s = c.args.graph.now in
    let is = held_is c.in_ok-list.list.items c.reads.result.now (task_at s c.args.task.0).reads (datum_count s) c.reads.ensures c.in_ok-list.ensures (c.well_formed-2.ensures.holds.reads c.args.task.0) in
    record { list = is; below = held_below c.in_ok-list.list.items (task_at s c.args.task.0).reads (datum_count s) is }
