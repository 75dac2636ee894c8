use Rattle.pyr_loader.proofs.UnreceivedLemmas.{markable_instr, search_more}
use Rattle.pyr_loader.proofs.leftover.first_in.Goals as goal

pub unreceived_by-requires : goal.unreceived_by-requires
unreceived_by-requires c =
    markable_instr c.args.bundle.now c.args.from.0 c.args.table.now c.code-instr-items.result.now c.loop-place.place _ c.well_formed-2.ensures c.requires.table c.code-instr-items.ensures c.loop-place-test.true

pub loop-place-preserved : goal.loop-place-preserved
loop-place-preserved c =
    search_more c.args.bundle.now c.args.from c.args.table.now c.code-instr-items.result.now c.loop-place.place _ c.loop-place.first c.unreceived_by.result c.first_of-first.result
    c.well_formed-2.ensures c.requires.table c.code-instr-items.ensures c.loop-place-test.true c.loop-place.invariant c.unreceived_by.ensures c.first_of-first.ensures
