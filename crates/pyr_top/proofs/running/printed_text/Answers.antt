use Rattle.std.proofs.Common.{length, sym, ap, ◌∙◌}
use Rattle.pyr_bundle.specs.Parts.{Parts}
use Rattle.pyr_top.proofs.LoadLemmas.{printed_count}
use Rattle.pyr_top.proofs.running.printed_text.Goals as goal

pub bundle_outputs-requires : goal.bundle_outputs-requires
bundle_outputs-requires g c =
    printed_count c.args.loaded.now.bundle c.args.loaded.now.steps c.in_ok-team.team.outputs.lists c.is_good.ensures.bundle c.is_good.ensures.good c.in_ok-team.ensures.outputs
    ∙ ap (λ (b : Parts). length b.prints) (sym c.bundle-bundle.ensures)
