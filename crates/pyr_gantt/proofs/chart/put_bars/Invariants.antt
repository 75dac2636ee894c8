use Rattle.std.proofs.Common.{◌≡◌, ◌++◌, length}
use Rattle.std.specs.List.{flat_map}
use Rattle.pyr_graph.specs.Numbers.{numbers}
use Rattle.pyr_gantt.specs.Gantt.{bar_line}
use Rattle.pyr_gantt.proofs.chart.put_bars.Given as goal

abbrev pub invariant-loop-processor : goal.invariant-loop-processor
invariant-loop-processor l =
    l.text.items ≡ l.initial.text.items ++ flat_map (bar_line l.placement l.plan (numbers (length l.placement.of))) (numbers l.processor)
