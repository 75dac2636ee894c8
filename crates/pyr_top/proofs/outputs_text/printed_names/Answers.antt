use Rattle.std.proofs.Common.{◌∙◌, [], ◌∷◌, ◌++◌, ap}
use Rattle.pyr_num.specs.declared.name.Name.{Name}
use Rattle.pyr_num.specs.declared.ids.DatumId.{DatumId}
use Rattle.pyr_graphtext.specs.Program.{datum_name}
use Rattle.pyr_top.proofs.OutputLemmas.{names_more}
use Rattle.pyr_top.proofs.outputs_text.printed_names.Goals as goal

pub loop-i-preserved : goal.loop-i-preserved
loop-i-preserved c =
    names_more (λ (d : DatumId). datum_name c.args.program.now d.0) c.loop-i.names.items c.push.new.self.items c.prints-prints.result.now c.loop-i.i _ c.loop-i-test.true c.loop-i.invariant
    (c.in_ok-push.ensures.items ∙ ap (λ (n : Name). c.loop-i.names.items ++ n ∷ []) c.datum_name.ensures)
