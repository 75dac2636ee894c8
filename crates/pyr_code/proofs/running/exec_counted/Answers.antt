use Rattle.std.proofs.Common.{refl, ap, ◌∙◌, length, map}
use Rattle.pyr_num.specs.Cells.{CellLists}
use Rattle.pyr_code.specs.declared.shape.Shape.{Shape}
use Rattle.pyr_code.specs.Seen.{code_of}
use Rattle.pyr_code.proofs.RunLemmas.{zeros, fine_start, executed}
use Rattle.pyr_code.proofs.Lengths.{lengths-outputs_of}
use Rattle.pyr_code.proofs.running.exec_counted.Goals as goal

pub run_ops-requires-clause-fine : goal.run_ops-requires-clause-fine
run_ops-requires-clause-fine g c =
    fine_start c.args.code.now.shape _ _ _ _ _ _ c.ops.ensures.verified.well_formed c.ops.ensures.value c.requires.inputs c.requires.outputs
    (zeros c.shape.result.locals c.args.code.now.shape.locals 64 _ (ap (λ (s : Shape). s.locals) c.shape.ensures.value) c.shape.ensures.few_locals refl)
    c.new-stack.ensures

pub returns-clause-value : goal.returns-clause-value
returns-clause-value g c =
    executed c.args.frame c.args.code.now.shape.locals _ _ _ _ _ _ _ _ c.run_ops.ensures.state c.run_ops.ensures.rest c.ops.ensures.value c.new-stack.ensures
    (zeros c.shape.result.locals c.args.code.now.shape.locals 64 _ (ap (λ (s : Shape). s.locals) c.shape.ensures.value) c.shape.ensures.few_locals refl)

pub returns-clause-lengths : goal.returns-clause-lengths
returns-clause-lengths g c =
    ap (λ (x : CellLists). map length x.outputs) (returns-clause-value g c)
    ∙ lengths-outputs_of c.args.frame c.args.cells.now.inputs (code_of c.args.code.now.ops) c.args.code.now.shape.locals c.args.cells.now.outputs
