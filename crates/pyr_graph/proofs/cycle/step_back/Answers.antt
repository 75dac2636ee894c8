use Rattle.std.proofs.Common.{◌≡◌, ℕ, ◌<◌, ◌≤◌, List, [], length, get_or, arith, ◌∙◌}
use Rattle.std.specs.List.{AllWithin, HoldsAt}
use Rattle.std.proofs.lemmas.List.{get_or_read, get_or_default}
use Rattle.std.proofs.lemmas.List.Elements.{AllWithin-more}
use Rattle.pyr_graph.specs.declared.edge.Edge.{Edge}
use Rattle.pyr_graph.specs.Tables.{IsWaiting, Precedes}
use Rattle.pyr_graph.proofs.TrailLemmas.{IsStepBack-first}
use Rattle.pyr_graph.proofs.cycle.step_back.Goals as goal
use Rattle.pyr_graph.proofs.cycle.step_back.Goals.{After-as_slice-edge-items}

none : Edge
none = record { task = record { 0 = 0 }; weight = 0 }

-- the row that is gone through
row_is : (c : After-as_slice-edge-items) → c.as_slice-edge-items.result.now ≡ get_or c.args.predecessors.now c.args.task.0 []
row_is c =
    c.as_slice-edge-items.ensures ∙ get_or_read c.args.predecessors.now _ _ (omega (arith, c.requires.task, c.requires.rows.full)) c.index-predecessors-task.is []

-- an edge whose task doesn't wait
idle : (pending : List ℕ) (row : List Edge) (i : ℕ) (d : Edge) → i < length row → get_or pending (get_or row i d).task.0 0 ≤ 0
    → HoldsAt (λ e. IsWaiting pending e.task.0 → ⊥) row i
idle pending row i d inside done = λ e waits. let same = rw (get_or_default row i e d inside) at waits in omega (arith, same, done)

-- some edge leads to a task that waits
found : (rows : List (List Edge)) (pending : List ℕ) (t a : ℕ) (row : List Edge) (i : ℕ) → row ≡ get_or rows t [] → length row ≤ i
    → AllWithin (λ e. IsWaiting pending e.task.0 → ⊥) row 0 i → IsWaiting pending a → Precedes rows a t → ⊥
found rows pending t a row i same past before waits edge =
    let (k, e, k_in, at, to_a) = rw (← same) at edge in
    before k e (omega arith) (omega (arith, k_in, past)) (rw (at, to_a) waits)

pub bounds-predecessors-task : goal.bounds-predecessors-task
bounds-predecessors-task c = rw c.requires.rows.full c.requires.task

pub bounds-pending-edge : goal.bounds-pending-edge
unfolding none
bounds-pending-edge c =
    let row = row_is (goal.at.bounds-pending-edge c).After-as_slice-edge-items in
    (rw (← row) at (c.requires.rows.tasks c.args.task.0)) c.loop-edge.edge-index none c.loop-edge-test.true

pub loop-edge-preserved : goal.loop-edge-preserved
unfolding none
loop-edge-preserved c =
    AllWithin-more (λ e. IsWaiting c.args.pending.now e.task.0 → ⊥) c.as_slice-edge-items.result.now 0 c.loop-edge.edge-index c.loop-edge.invariant
    (idle c.args.pending.now c.as_slice-edge-items.result.now c.loop-edge.edge-index none c.loop-edge-test.true c.if-pending-edge-gt0.false)

pub unreachable-requires : goal.unreachable-requires
unreachable-requires c =
    let (a, waits, edge) = c.requires.some in
    found c.args.predecessors.now c.args.pending.now c.args.task.0 a c.as_slice-edge-items.result.now c.loop-edge.edge-index
    (row_is (goal.at.unreachable-requires c).After-as_slice-edge-items) c.loop-edge-test.false c.loop-edge.invariant waits edge

pub returns-then-pending-edge-gt0 : goal.returns-then-pending-edge-gt0
unfolding none
returns-then-pending-edge-gt0 c =
    let row = row_is (goal.at.returns-then-pending-edge-gt0 c).After-as_slice-edge-items in
    IsStepBack-first c.args.predecessors.now c.args.pending.now c.args.task.0 c.as_slice-edge-items.result.now c.loop-edge.edge-index none row (c.requires.rows.rising c.args.task.0) c.loop-edge-test.true c.loop-edge.invariant c.if-pending-edge-gt0.true
