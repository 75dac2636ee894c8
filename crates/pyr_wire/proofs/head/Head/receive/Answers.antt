use Rattle.std.proofs.Common.{ap, ◌∙◌}
use Rattle.pyr_wire.specs.declared.rule.Progress.{Progress}
use Rattle.pyr_wire.proofs.Steps.{takes}
use Rattle.pyr_wire.proofs.head.Head.receive.Goals as goal

pub recv_as-requires-clause-rule : goal.recv_as-requires-clause-rule
recv_as-requires-clause-rule g c = (takes _ _ (ap (λ (k : Progress). k.part) c.loop.invariant.3 ∙ c.loop.invariant.4), λ items views h at. tt)
