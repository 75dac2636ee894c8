use Rattle.std.proofs.lemmas.List.{take_more, take_all}
use Rattle.pyr_bundletext.specs.Text.{spaced}
use Rattle.pyr_bundletext.proofs.PrintingLemmas.{items_more, items_all, line_written}
use Rattle.pyr_bundletext.proofs.lines.put_line.Goals as goal

pub loop-number-preserved : goal.loop-number-preserved
loop-number-preserved c =
    items_more spaced _ _ _ _ _ _ (take_more c.args.numbers.now c.loop-number.number-index _ c.loop-number-test.true) c.loop-number.invariant c.in_ok-put_number.ensures

pub returns-clause-text : goal.returns-clause-text
returns-clause-text c =
    line_written c.args.text.now.items c.args.word.now c.args.numbers.now _ _ (items_all spaced _ _ _ _ (take_all c.loop-number.number-index c.args.numbers.now c.loop-number-test.false) c.loop-number.invariant) c.in_ok-push.ensures.items
