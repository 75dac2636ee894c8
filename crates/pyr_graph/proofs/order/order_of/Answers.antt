use Rattle.std.proofs.Common.{◌≡◌, [], length, arith, ◌∙◌}
use Rattle.std.proofs.lemmas.List.{get_or_default, length-map, take_at}
use Rattle.pyr_graph.proofs.OrderLemmas.{IsFoundCycle-left, all_taken, row_short}
use Rattle.pyr_graph.proofs.order.order_of.Goals as goal
use Rattle.pyr_graph.proofs.order.order_of.Goals.{After-deref}

pub counts_of-requires : goal.counts_of-requires
counts_of-requires c = λ k d inside.
    rw (get_or_default c.args.predecessors.now k d [] inside) (omega (arith, row_short (length c.args.predecessors.now) c.args.predecessors.now c.requires.rows k, c.requires.few))

pub take_out-requires : goal.take_out-requires
take_out-requires c =
    rw c.deref_mut.ensures.value
    (record { few = c.requires.few; rows = c.requires.rows; back = c.requires.back; opposite = c.requires.opposite; counts = c.in_ok-pending.ensures })

-- what the tasks wait for when no more can be taken out
pending_is : (c : After-deref) → c.deref.result.now ≡ c.take_out.new.pending
pending_is c = c.deref.ensures.value ∙ take_at c.take_out.new.pending _ _ (c.take_out.auto.pending ∙ c.deref_mut.ensures.len)

pub walk_back-requires : goal.walk_back-requires
walk_back-requires c =
    let taken = c.in_ok-order.ensures in
    rw (pending_is c, taken.full) (record {
      few = c.requires.few;
      rows = c.requires.rows;
      some = taken.some_waits (rw (length-map, ← c.len.ensures) c.if-len-predecessors.true);
      stuck = taken.stuck;
    })

pub returns-then-len-predecessors : goal.returns-then-len-predecessors
returns-then-len-predecessors c =
    let found = rw (pending_is (goal.at.returns-then-len-predecessors c).After-deref) at c.in_ok-tasks.ensures in
    record { full = tt; first = tt; cause = IsFoundCycle-left _ _ _ c.in_ok-order.ensures _ found }

pub returns : goal.returns
returns c =
    let taken = c.in_ok-order.ensures in
    record {
      full = rw length-map at (all_taken _ _ _ taken c.len.result c.if-len-predecessors.false (rw length-map c.len.ensures));
      first = taken.first;
      cause = tt;
    }
