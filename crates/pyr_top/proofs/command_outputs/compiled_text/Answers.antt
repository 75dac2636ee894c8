use Rattle.pyr_top.proofs.CompiledLemmas.{compiles_safely}
use Rattle.pyr_top.proofs.command_outputs.compiled_text.Goals as goal

pub returns-clause-safe : goal.returns-clause-safe
returns-clause-safe c =
    compiles_safely c.args.input.now c.in_ok-text.field-0.items c.in_ok-program.program c.in_ok-program.ensures.program c.in_ok-text.ensures.safe
