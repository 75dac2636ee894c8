use Rattle.std.proofs.Common.{ap, ◌∙◌, sym, slice_get}
use Rattle.pyr_wire.specs.declared.rule.Progress.{Progress}
use Rattle.pyr_wire.proofs.Steps.{sends}
use Rattle.pyr_wire.proofs.tail.Tail.send.Goals as goal

pub send_as-requires-clause-rule : goal.send_as-requires-clause-rule
send_as-requires-clause-rule g c =
    let i = c.loop.invariant in (
      sends _ _ _ _ (ap (λ (k : Progress). k.part) i.3 ∙ i.4) (i.5 ∙ ap (λ (k : Progress). k.capacity) (sym i.3)) (ap (λ (k : Progress). slice_get k.whole k.count) i.3 ∙ i.6),
      λ items views h at. tt,
    )
