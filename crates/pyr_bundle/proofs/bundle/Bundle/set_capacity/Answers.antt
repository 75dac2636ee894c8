use Rattle.std.proofs.Common.{List, set, get_or, ◌∙◌, sym, ap, subst}
use Rattle.pyr_bundle.specs.declared.capacity.Capacity.{Capacity}
use Rattle.pyr_bundle.specs.Parts.{Parts, IsBundle, no_channel, with_capacity}
use Rattle.pyr_bundle.proofs.PartsLemmas.{capacity_set}
use Rattle.pyr_bundle.proofs.bundle.Bundle.set_capacity.Goals as goal

pub invariant_of-self : goal.invariant_of-self
invariant_of-self c =
    let whole = capacity_set c.args.self.now c.args.channel c.args.capacity c.requires.known c.requires.some c.requires.few (subst IsBundle c.self.view_is c.self.invariant) in
    subst (λ (cs : List Capacity). IsBundle (record { datums = c.self.inside.datums; tasks = c.self.inside.tasks; prints = c.self.inside.prints; channels = cs; code = c.self.inside.code }))
    (sym (c.set.ensures ∙ ap (λ (xs : List Capacity). set c.self.inside.channels c.args.channel (record (get_or xs c.args.channel no_channel) { capacity = c.args.capacity })) c.as_slice.ensures))
    (subst (λ (b : Parts). IsBundle (with_capacity b c.args.channel c.args.capacity)) (sym c.self.view_is) whole)
