use Rattle.std.proofs.Common.{◌≡◌, length, arith}
use Rattle.pyr_graph.proofs.WriterLemmas.{AreOnly-none, AreOnly-more}
use Rattle.pyr_graph.proofs.writers.only_writers.Goals as goal

pub loop-entry-init : goal.loop-entry-init
loop-entry-init c = rw c.new-writers.ensures.items (AreOnly-none c.args.table.now)

pub loop-entry-preserved : goal.loop-entry-preserved
loop-entry-preserved c =
    rw c.in_ok-push.ensures.items (AreOnly-more c.args.table.now c.loop-entry.writers.items c.loop-entry.entry-index c.in-Only.task c.in-Only.is c.loop-entry.invariant)

pub returns : goal.returns
returns c =
    let all : c.loop-entry.entry-index ≡ length c.args.table.now = omega (arith, c.loop-entry-test.false, c.loop-entry.auto.entry-index-end) in
    let is = rw (all, ← c.from_vec.ensures) at c.loop-entry.invariant in
    record { full = is.full; only = is.only }
