use Rattle.std.proofs.Common.{◌∙◌, ap, max, sym, subst}
use Rattle.pyr_calm.specs.Seats.{IsCounted}
use Rattle.pyr_calm.proofs.Passes.{counted_seat}
use Rattle.pyr_calm.proofs.viewer.Viewer.count_send.Goals as goal

pub returns : goal.returns
returns c =
    rw (← c.self.view_is)
    (counted_seat c.args.p c.args.takes.now _ c.takes_from.result c.max-self-inside.result
    (subst (IsCounted c.args.p c.args.takes.now) (sym c.self.view_is) c.requires.counted)
    c.takes_from.ensures
    (c.max-self-inside.ensures ∙ ap (max c.self.inside.most) c.saturating_sub.ensures))
