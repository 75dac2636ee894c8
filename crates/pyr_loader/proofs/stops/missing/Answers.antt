use Rattle.std.proofs.Common.{sym, ◌∙◌}
use Rattle.pyr_bundle.specs.Parts.{datum_id}
use Rattle.pyr_machine.specs.Station.{world_of}
use Rattle.pyr_loader.proofs.StopLemmas.{missing_here, none_missing_more}
use Rattle.pyr_loader.proofs.stops.missing.Goals as goal

pub returns-then-not-has : goal.returns-then-not-has
returns-then-not-has c =
    missing_here ((world_of c.args.tags.now.posts).locals c.args.p.0).store c.args.datums.now c.loop-d.d-index (datum_id 0) c.loop-d-test.true c.loop-d.invariant (sym c.has.ensures ∙ c.if-not-has.true)

pub loop-d-preserved : goal.loop-d-preserved
loop-d-preserved c =
    none_missing_more ((world_of c.args.tags.now.posts).locals c.args.p.0).store c.args.datums.now c.loop-d.d-index (datum_id 0) c.loop-d-test.true c.loop-d.invariant (sym c.has.ensures ∙ c.if-not-has.false)
