use Rattle.std.proofs.Common.{◌∙◌, rules}
use Rattle.pyr_bundletext.proofs.CodeLemmas.{close_nodes}
use Rattle.pyr_bundletext.proofs.open_code.OpenCode.close.Goals as goal

pub invariant_of-self-2 : goal.invariant_of-self-2
invariant_of-self-2 c =
    c.self.invariant ∙ close_nodes c.self.inside.outer c.pop.new.self c.in-Some.open c.self.inside.current c.push.new.self (search rules) (search rules)
