use Rattle.std.proofs.Common.{sym}
use Rattle.std.proofs.lemmas.Bool.{eqb-true}
use Rattle.pyr_graphtext.proofs.ReadingLemmas.{HasRead-start, HasRead-step, HasRead-faulty, HasRead-open, HasRead-end}
use Rattle.pyr_graphtext.proofs.reading.take_lines.Goals as goal

pub returns-in-Err-clause-fault : goal.returns-in-Err-clause-fault
returns-in-Err-clause-fault c = rw c.at_line.ensures (HasRead-faulty c.args.text.now c.loop-rest.reader c.line.new.self c.loop-rest.number c.loop-rest.rest.now c.first_line.result.0.now c.first_line.result.1.now c.in-Err.fault c.loop-rest.invariant c.first_line.ensures.cut c.in-Err.ensures)

pub loop-rest-preserved : goal.loop-rest-preserved
loop-rest-preserved c = HasRead-step c.args.text.now c.loop-rest.reader c.line.new.self c.loop-rest.number c.loop-rest.rest.now c.first_line.result.0.now c.first_line.result.1.now c.loop-rest.invariant c.first_line.ensures.cut c.first_line.ensures.shorter c.in-Ok.ensures

pub returns-then-is_open-clause-fault : goal.returns-then-is_open-clause-fault
returns-then-is_open-clause-fault c = HasRead-open c.args.text.now c.loop-rest.reader c.loop-rest.number c.loop-rest.rest.now c.loop-rest.invariant (eqb-true _ _ (sym c.loop-rest-test.ensures)) (sym c.if-is_open.ensures)

pub returns-clause-read : goal.returns-clause-read
returns-clause-read c = HasRead-end c.args.text.now c.loop-rest.reader c.loop-rest.number c.loop-rest.rest.now c.loop-rest.invariant (eqb-true _ _ (sym c.loop-rest-test.ensures)) (sym c.if-is_open.ensures)

pub loop-rest-init : goal.loop-rest-init
loop-rest-init c = HasRead-start _ _ c.requires.new
