use Rattle.std.proofs.Common.{◌+◌, ◌-◌, length, drop, arith}
use Rattle.std.proofs.lemmas.List.{length-take}
use Rattle.pyr_port.proofs.Moving.{moved}
use Rattle.pyr_port.proofs.steady.SteadySourceSource.take.Goals as goal

pub returns-clause-bytes : goal.returns-clause-bytes
returns-clause-bytes c =
    let left = length c.deref.result.now in
    rw (← c.self.view_is)
    (moved c.self.inside.bytes.items c.deref.result.now c.self.inside.at (left + 1) _ c.min-count.result c.args.into.now c.copy_from_slice.new.self c.deref.ensures.value (omega arith)
    (omega (arith, length-take (length c.deref.result.now - c.self.inside.at) (drop c.self.inside.at c.deref.result.now))) c.min-count.ensures c.copy_from_slice.ensures.after)
