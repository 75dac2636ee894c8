use Rattle.std.proofs.Common.{◌≡◌, true, false, sym, ap, ◌∙◌, arith}
use Rattle.std.specs.Prelude.{bytes_eq, codes}
use Rattle.std.proofs.lemmas.Bool.{eqb-true}
use Rattle.pyr_simul.proofs.CutLemmas.{HasPassed-step, graph-here, later-here, line-here, graph-whole, later-none, line-none}
use Rattle.pyr_simul.proofs.input.cut_input.Goals as goal

pub returns-then-eq-clause-graph : goal.returns-then-eq-clause-graph
returns-then-eq-clause-graph c =
    let same : bytes_eq c.first_line.result.0.now (codes "durations") ≡ true = sym (ap (bytes_eq c.first_line.result.0.now) c.as_slice.ensures) ∙ sym (c.if-eq.ensures) in
    graph-here c.args.input.now c.loop-rest.number c.loop-rest.rest.now c.loop-rest.invariant c.first_line.result.0.now c.first_line.result.1.now c.first_line.ensures.cut c.first_line.ensures.behind (omega (arith, c.first_line.ensures.shorter)) same

pub returns-then-eq-clause-later : goal.returns-then-eq-clause-later
returns-then-eq-clause-later c =
    let same : bytes_eq c.first_line.result.0.now (codes "durations") ≡ true = sym (ap (bytes_eq c.first_line.result.0.now) c.as_slice.ensures) ∙ sym (c.if-eq.ensures) in
    later-here c.args.input.now c.loop-rest.number c.loop-rest.rest.now c.loop-rest.invariant c.first_line.result.0.now c.first_line.result.1.now c.first_line.ensures.cut c.first_line.ensures.behind (omega (arith, c.first_line.ensures.shorter)) same

pub returns-then-eq-clause-line : goal.returns-then-eq-clause-line
returns-then-eq-clause-line c =
    let same : bytes_eq c.first_line.result.0.now (codes "durations") ≡ true = sym (ap (bytes_eq c.first_line.result.0.now) c.as_slice.ensures) ∙ sym (c.if-eq.ensures) in
    line-here c.args.input.now c.loop-rest.number c.loop-rest.rest.now c.loop-rest.invariant c.first_line.result.0.now c.first_line.result.1.now c.first_line.ensures.cut c.first_line.ensures.behind (omega (arith, c.first_line.ensures.shorter)) same

pub loop-rest-preserved : goal.loop-rest-preserved
loop-rest-preserved c =
    let other : bytes_eq c.first_line.result.0.now (codes "durations") ≡ false = sym (ap (bytes_eq c.first_line.result.0.now) c.as_slice.ensures) ∙ sym (c.if-eq.ensures) in
    HasPassed-step c.args.input.now c.loop-rest.number c.loop-rest.rest.now c.loop-rest.invariant c.first_line.result.0.now c.first_line.result.1.now c.first_line.ensures.cut c.first_line.ensures.behind c.first_line.ensures.shorter other

pub returns-clause-graph : goal.returns-clause-graph
returns-clause-graph c = graph-whole c.args.input.now c.loop-rest.number c.loop-rest.rest.now c.loop-rest.invariant (eqb-true _ _ (sym c.loop-rest-test.ensures))

pub returns-clause-later : goal.returns-clause-later
returns-clause-later c = later-none c.args.input.now c.loop-rest.number c.loop-rest.rest.now c.loop-rest.invariant (eqb-true _ _ (sym c.loop-rest-test.ensures))

pub returns-clause-line : goal.returns-clause-line
returns-clause-line c = line-none c.args.input.now c.loop-rest.number c.loop-rest.rest.now c.loop-rest.invariant (eqb-true _ _ (sym c.loop-rest-test.ensures))
