use Rattle.std.proofs.Common.{subst}
use Rattle.pyr_graph.specs.Bounds.{IsWithinLimits}
use Rattle.pyr_simul.proofs.ReaderLemmas.{told_for, told_read}
use Rattle.pyr_simul.proofs.reading.read_durations.Goals as goal

pub returns-clause-durations : goal.returns-clause-durations
returns-clause-durations c =
    let p = c.args.program.now in
    let read = c.in-Ok.ensures p c.graph-graph.ensures.program c.in_ok-reader.ensures in
    told_read p c.graph-graph.ensures.program (subst IsWithinLimits c.graph-graph.ensures.graph c.well_formed-2.ensures.limits) read.0 c.take_lines.new.reader read.2 c.graph-graph.result.now c.graph-graph.ensures.graph c.in_ok-durations.field-0 c.in_ok-durations.ensures c.args.first_line c.args.text.now read.1

pub returns-clause-for_graph : goal.returns-clause-for_graph
returns-clause-for_graph c =
    let p = c.args.program.now in
    let read = c.in-Ok.ensures p c.graph-graph.ensures.program c.in_ok-reader.ensures in
    told_for p c.graph-graph.ensures.program (subst IsWithinLimits c.graph-graph.ensures.graph c.well_formed-2.ensures.limits) read.0 c.take_lines.new.reader read.2 c.graph-graph.result.now c.graph-graph.ensures.graph c.in_ok-durations.field-0 c.in_ok-durations.ensures
