use Rattle.std.proofs.Common.{arith}
use Rattle.pyr_make.specs.Layered.{layered_datum_name}
use Rattle.pyr_make.proofs.MadeLists.{made_on, made_whole}
use Rattle.pyr_make.proofs.NameLemmas.{datum_is_named}
use Rattle.pyr_make.proofs.names.datum_names.Goals as goal

pub numbered-requires : goal.numbered-requires
numbered-requires c = datum_is_named c.loop-datum.datum (omega (arith, c.loop-datum-test.true, c.ranges.datums))

pub loop-datum-init : goal.loop-datum-init
loop-datum-init c = c.in_ok-names.ensures.items

pub loop-datum-preserved : goal.loop-datum-preserved
loop-datum-preserved c = made_on layered_datum_name c.loop-datum.datum c.loop-datum.names.items c.push.new.self.items _ c.loop-datum.invariant c.in_ok-numbered.ensures c.in_ok-push.ensures.items

pub returns : goal.returns
returns c = made_whole layered_datum_name c.loop-datum.datum c.args.datums c.loop-datum.names.items c.loop-datum-test.false c.loop-datum.auto.datum-end c.loop-datum.invariant
