use Rattle.std.proofs.Common.{ℕ, ap}
use Rattle.pyr_graph.specs.declared.parts.DatumParts.{DatumParts}
use Rattle.pyr_make.specs.Layered.{layered_datum}
use Rattle.pyr_make.proofs.MadeLists.{made_on, made_whole}
use Rattle.pyr_make.proofs.lists.datum_list.Goals as goal

-- a datum of one word
abbrev datum : ℕ → DatumParts
datum comm = record { length = 1; comm = comm }

pub loop-datum-init : goal.loop-datum-init
loop-datum-init c = c.in_ok-list.ensures.items

pub loop-datum-preserved : goal.loop-datum-preserved
loop-datum-preserved c = made_on layered_datum c.loop-datum.datum c.loop-datum.list.items c.push.new.self.items _ c.loop-datum.invariant (ap datum c.comm_of.ensures) c.in_ok-push.ensures.items

pub returns : goal.returns
returns c = made_whole layered_datum c.loop-datum.datum c.args.datums c.loop-datum.list.items c.loop-datum-test.false c.loop-datum.auto.datum-end c.loop-datum.invariant
