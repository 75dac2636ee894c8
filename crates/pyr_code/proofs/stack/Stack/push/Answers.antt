use Rattle.std.proofs.Common.{◌<◌, ◌∷◌, length, ap, ◌∙◌, arith}
use Rattle.pyr_code.proofs.StackLemmas.{stacked-set_top, length-stacked}
use Rattle.pyr_code.proofs.stack.Stack.push.Goals as goal

pub returns : goal.returns
returns c =
    let n = ap length c.self.view_is in
    let l : c.self.inside.height < length c.self.inside.words = omega (arith, n, length-stacked c.self.inside.words c.self.inside.height, c.self.told) in
    stacked-set_top c.self.inside.words c.self.inside.height c.args.word l ∙ ap (λ s. c.args.word ∷ s) c.self.view_is
