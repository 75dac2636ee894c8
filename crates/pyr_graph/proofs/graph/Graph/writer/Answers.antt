-- The task that is kept at the datum writes it.
use Rattle.std.proofs.Common.{◌<◌, length}
use Rattle.pyr_graph.proofs.graph.Graph.writer.Goals as goal

pub returns-clause-writes : goal.returns-clause-writes
returns-clause-writes c =
    let inside : c.args.datum.0 < length c.self.inside.datums = rw (← c.self.view_is) at c.requires in
    rw (← c.self.view_is, c.as_slice.ensures, c.self.invariant.1.writers c.args.datum.0 inside) (c.self.invariant.0.some_writer c.args.datum.0 inside)
