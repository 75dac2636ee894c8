use Rattle.std.proofs.Common.{refl, append_assoc, length}
use Rattle.std.specs.List.{flat_map}
use Rattle.pyr_graph.specs.Numbers.{numbers}
use Rattle.pyr_gantt.specs.Gantt.{bar_line}
use Rattle.pyr_gantt.proofs.NumberLemmas.{lines_more, bar_columns}
use Rattle.pyr_gantt.proofs.chart.put_bars.Goals as goal

pub loop-processor-preserved : goal.loop-processor-preserved
loop-processor-preserved c =
    let tasks = numbers (length c.args.placement.now.of) in
    let line = bar_line c.args.placement.now c.args.plan.now tasks in
    let p = c.loop-processor.processor in
    rw (lines_more line p, c.in_ok-put_bar.ensures, c.loop-processor.invariant, bar_columns c.args.placement.now c.args.plan.now tasks c.args.columns.now p _ c.requires c.loop-processor-test.true refl)
    (append_assoc c.args.text.now.items (flat_map line (numbers p)) (line p))
