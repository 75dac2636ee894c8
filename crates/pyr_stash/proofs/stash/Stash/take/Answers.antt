use Rattle.std.proofs.Common.{sym, ap, ◌∙◌}
use Rattle.std.specs.List.{position}
use Rattle.std.specs.Option.{is_some}
use Rattle.pyr_stash.specs.Held.{has_tag}
use Rattle.pyr_stash.proofs.Places.{found, removed, picked, not_found, none_removed}
use Rattle.pyr_stash.proofs.stash.Stash.take.Goals as goal

pub returns-in_err-at-clause-found : goal.returns-in_err-at-clause-found
returns-in_err-at-clause-found c =
    let at = ap (position (has_tag c.args.tag.0)) (sym c.deref.ensures.value) ∙ sym c.index_of.ensures ∙ c.in_err-at.was in
    ap is_some c.from_residual.ensures ∙ rw (← c.self.view_is) (not_found c.args.tag.0 c.self.inside.parcels.items at)

pub returns-in_err-at-clause-others : goal.returns-in_err-at-clause-others
returns-in_err-at-clause-others c =
    let at = ap (position (has_tag c.args.tag.0)) (sym c.deref.ensures.value) ∙ sym c.index_of.ensures ∙ c.in_err-at.was in
    rw (← c.self.view_is) (none_removed c.args.tag.0 c.self.inside.parcels.items at)

pub returns-clause-found : goal.returns-clause-found
returns-clause-found c =
    let at = ap (position (has_tag c.args.tag.0)) (sym c.deref.ensures.value) ∙ sym c.index_of.ensures ∙ c.in_ok-at.was in
    rw (← c.self.view_is) (found c.args.tag.0 c.self.inside.parcels.items _ at)

pub returns-clause-parcel : goal.returns-clause-parcel
returns-clause-parcel c =
    let at = ap (position (has_tag c.args.tag.0)) (sym c.deref.ensures.value) ∙ sym c.index_of.ensures ∙ c.in_ok-at.was in
    rw (← c.self.view_is) (picked c.args.tag c.self.inside.parcels.items _ _ at c.remove.ensures.value)

pub returns-clause-others : goal.returns-clause-others
returns-clause-others c =
    let at = ap (position (has_tag c.args.tag.0)) (sym c.deref.ensures.value) ∙ sym c.index_of.ensures ∙ c.in_ok-at.was in
    rw (← c.self.view_is) (c.remove.ensures.items ∙ removed c.args.tag.0 c.self.inside.parcels.items _ at)
