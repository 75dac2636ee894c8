use Rattle.std.proofs.Common.{◌≡◌, [], ◌++◌, List, length, get_or, take, drop, arith, ap, sym, ◌∙◌}
use Rattle.std.proofs.lemmas.List.{get_or_read, take_at}
use Rattle.pyr_graph.specs.declared.edge.Edge.{Edge}
use Rattle.pyr_graph.specs.Tables.{turned}
use Rattle.pyr_graph.proofs.RowLemmas.{turned_from-more}
use Rattle.pyr_graph.proofs.edges.turned_rows.Goals as goal
use Rattle.pyr_graph.proofs.edges.turned_rows.Goals.{After-as_slice}

-- the edges that were read are those of the row
row_is : (c : After-as_slice) → c.as_slice.result.now ≡ get_or c.args.successors.now c.loop-number.number []
row_is c = c.as_slice.ensures ∙ get_or_read c.args.successors.now _ _ c.loop-number-test.true c.index-successors-number.is []

pub turn_row-requires : goal.turn_row-requires
turn_row-requires c =
    let many : length c.deref_mut.result.now ≡ length c.args.successors.now = omega (arith, c.deref_mut.ensures.len, c.loop-number.invariant.0) in
    rw (row_is c, many) (c.requires.rows.tasks c.loop-number.number)

pub loop-number-preserved : goal.loop-number-preserved
loop-number-preserved c =
    let row = row_is (goal.at.loop-number-preserved c).After-as_slice in
    let new = c.turn_row.new.rows in
    let many : length new ≡ length c.args.successors.now = omega (arith, c.turn_row.auto.rows, c.deref_mut.ensures.len, c.loop-number.invariant.0) in
    let back : take c.loop-number.rows.len (new ++ drop (length new) c.loop-number.rows.items) ≡ new = take_at new _ _ (omega (arith, c.turn_row.auto.rows, c.deref_mut.ensures.len)) in
    rw back (
      many,
      λ t inside.
          let step = rw (c.deref_mut.ensures.value, row) at (c.in_ok-turn_row.ensures t (omega (arith, c.deref_mut.ensures.len, c.loop-number.invariant.0, inside))) in
          step ∙ (ap (λ (xs : List Edge). xs ++ turned c.loop-number.number (get_or c.args.successors.now c.loop-number.number []) t) (c.loop-number.invariant.1 t inside)
          ∙ sym (turned_from-more c.args.successors.now c.loop-number.number t c.loop-number-test.true)),
    )
