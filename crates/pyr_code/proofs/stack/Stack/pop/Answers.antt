use Rattle.std.proofs.Common.{length, ap, arith}
use Rattle.pyr_code.proofs.StackLemmas.{length-stacked}
use Rattle.pyr_code.proofs.stack.Stack.pop.Goals as goal

pub returns-clause-few : goal.returns-clause-few
returns-clause-few c =
    let n = ap length c.self.view_is in
    omega (arith, n, length-stacked c.self.inside.words c.self.inside.height, c.self.invariant)
