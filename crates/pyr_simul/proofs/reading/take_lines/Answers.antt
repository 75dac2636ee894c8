use Rattle.std.proofs.Common.{◌≡◌, Err, rules, sym, arith}
use Rattle.std.proofs.lemmas.Bool.{eqb-true}
use Rattle.pyr_simul.proofs.ReaderLemmas.{HasRead-step, stops_at, HasRead-end}
use Rattle.pyr_simul.proofs.reading.take_lines.Goals as goal

pub returns-in_err-line : goal.returns-in_err-line
returns-in_err-line c =
    let e : c.from_residual.result ≡ Err c.in_err-line.field-0.0 = search rules in
    stops_at c.args.reader.now c.args.first c.args.text.now c.loop-rest.reader c.loop-rest.number c.loop-rest.rest.now c.loop-rest.invariant.read c.first_line.result.0.now c.first_line.result.1.now c.first_line.ensures.cut c.from_residual.result c.line.new.self c.in_err-line.field-0.0 e c.in_err-line.ensures.takes

pub loop-rest-preserved : goal.loop-rest-preserved
loop-rest-preserved c = record {
  short = omega (arith, c.first_line.ensures.shorter, c.loop-rest.invariant.short);
  full = c.in_ok-line.ensures.full;
  read = HasRead-step c.args.reader.now c.args.first c.args.text.now c.loop-rest.reader c.loop-rest.number c.loop-rest.rest.now c.loop-rest.invariant.read c.first_line.result.0.now c.first_line.result.1.now c.first_line.ensures.cut c.first_line.ensures.shorter c.line.new.self c.in_ok-line.ensures.takes;
}

pub returns : goal.returns
returns c = HasRead-end c.args.reader.now c.args.first c.args.text.now c.loop-rest.reader c.loop-rest.number c.loop-rest.rest.now c.loop-rest.invariant.read (eqb-true _ _ (sym c.loop-rest-test.ensures))
