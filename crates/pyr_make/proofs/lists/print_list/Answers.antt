use Rattle.std.proofs.Common.{◌≡◌, ℕ, arith, sym, ap, ◌∙◌}
use Rattle.pyr_make.specs.Layered.{as_datums}
use Rattle.pyr_make.proofs.PrintLemmas.{last_layer_from, prints-range, range_more}
use Rattle.pyr_make.proofs.lists.print_list.Goals as goal

pub loop-datum-preserved : goal.loop-datum-preserved
loop-datum-preserved c =
    c.in_ok-push.ensures.items ∙ rw c.loop-datum.invariant (sym (range_more c.last_layer-first.result c.loop-datum.datum c.loop-datum.auto.datum))

pub returns : goal.returns
returns c =
    let n : ℕ = c.args.tasks in
    let from : c.last_layer-first.result ≡ last_layer_from n = c.last_layer-first.ensures in
    let end : c.loop-datum.datum ≡ n = omega arith in
    c.loop-datum.invariant ∙ rw (end, from) (ap as_datums (sym (prints-range n c.requires)))
