use Rattle.std.proofs.Common.{ℕ, List, ◌≤◌, length, ap, arith}
use Rattle.pyr_num.specs.declared.limits.TheConstants.Limits.{INPUT}
use Rattle.pyr_top.specs.declared.command.Command.TheVariants.{Run}
use Rattle.pyr_top.proofs.Answering.{gives_output, leaves_source}
use Rattle.pyr_top.proofs.running.output_of_run.Goals as goal

pub returns-clause-output : goal.returns-clause-output
returns-clause-output g c =
    let fits : length c.deref.result.now ≤ INPUT =
    (let same = ap (λ (bytes : List ℕ). length bytes) c.deref.ensures.value in omega (arith, same, c.in_ok-input.input.ok, c.in_ok-input.ensures.fits)) in
    gives_output Run (g.S.Source.left c.args.source.now) c.in_ok-input.input c.deref.result.now c.deref.ensures.value c.in_ok-input.ensures.input fits c.run_text.result c.run_text.ensures.ok c.run_text.ensures.safe

pub returns-clause-source : goal.returns-clause-source
returns-clause-source g c =
    let fits : length c.deref.result.now ≤ INPUT =
    (let same = ap (λ (bytes : List ℕ). length bytes) c.deref.ensures.value in omega (arith, same, c.in_ok-input.input.ok, c.in_ok-input.ensures.fits)) in
    leaves_source Run _ c.in_ok-input.input c.deref.result.now c.deref.ensures.value c.in_ok-input.ensures.input fits c.run_text.result c.in_ok-input.ensures.source c.run_text.ensures.refused
