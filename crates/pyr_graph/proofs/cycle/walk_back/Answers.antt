use Rattle.std.proofs.Common.{◌≡◌, ℕ, ◌<◌, ◌^◌, List, Fits, w64, length, get_or, arith, rules, sym, ◌∙◌, None}
use Rattle.std.proofs.lemmas.List.{get_or_read, drop-map, map_push, length-map}
use Rattle.pyr_num.specs.declared.ids.TaskId.{TaskId}
use Rattle.pyr_graph.specs.System.{task_numbers}
use Rattle.pyr_graph.specs.Tables.{IsWaiting, Precedes}
use Rattle.pyr_graph.proofs.TrailLemmas.{IsTrail-start, IsTrail-step, IsTrail-short, IsFoundCycle-from_trail, IsPlaced-start, IsPlaced-step, waiting_in}
use Rattle.pyr_graph.proofs.cycle.walk_back.Goals as goal
use Rattle.pyr_graph.proofs.cycle.walk_back.Goals.{After-index}

-- the task is one of the tasks
task_in : (c : After-index) → c.loop-first.task.0 < length c.args.pending.now
task_in c = waiting_in c.args.pending.now c.loop-first.task.0 c.loop-first.invariant.0.stands

-- what the table of the places says of it
read : (c : After-index) → c.index.result.now ≡ get_or c.loop-first.places.items c.loop-first.task.0 None
read c = get_or_read c.loop-first.places.items _ _ (omega (arith, task_in c, c.loop-first.invariant.1.full)) c.index.ensures None

-- so its number fits an index
fits : (pending : List ℕ) (t : ℕ) → length pending < 2 ^ 32 → IsWaiting pending t → Fits w64 t
fits pending t few waits = let inside = waiting_in pending t waits in omega (arith, few, inside)

pub split_off-requires : goal.split_off-requires
split_off-requires c =
    let known = c.loop-first.invariant.1.known c.loop-first.task.0 c.in-Some.first (sym (read (goal.at.split_off-requires c).After-index) ∙ c.in-Some.is) in
    omega (arith, known.0, length-map c.loop-first.trail.items (λ (t : TaskId). t.0), c.loop-first.trail.ok)

pub returns-in-Some : goal.returns-in-Some
returns-in-Some c =
    let known = c.loop-first.invariant.1.known c.loop-first.task.0 c.in-Some.first (sym (read (goal.at.returns-in-Some c).After-index) ∙ c.in-Some.is) in
    rw (c.from_vec.ensures, c.in_ok-split_off.ensures.tail, ← drop-map (λ (t : TaskId). t.0) c.in-Some.first c.loop-first.trail.items)
    (IsFoundCycle-from_trail (IsWaiting c.args.pending.now) (Precedes c.args.predecessors.now) (task_numbers c.loop-first.trail.items) c.loop-first.task.0 c.in-Some.first known.0 known.1 c.loop-first.invariant.0)

pub loop-first-smaller : goal.loop-first-smaller
loop-first-smaller c =
    let at = (goal.at.loop-first-smaller c).After-index in
    let new = c.loop-first.invariant.1.new c.loop-first.task.0 (task_in at) (sym (read at) ∙ c.in_default.is) in
    let short = IsTrail-short (IsWaiting c.args.pending.now) (Precedes c.args.predecessors.now) (length c.args.pending.now) (task_numbers c.loop-first.trail.items) c.loop-first.task.0 (waiting_in c.args.pending.now) c.loop-first.invariant.0 new in
    omega (arith, short, length-map c.loop-first.trail.items (λ (t : TaskId). t.0), c.in_ok-push.ensures.len, c.loop-first.trail.ok)

pub loop-first-preserved : goal.loop-first-preserved
loop-first-preserved c =
    let at = (goal.at.loop-first-preserved c).After-index in
    let new = c.loop-first.invariant.1.new c.loop-first.task.0 (task_in at) (sym (read at) ∙ c.in_default.is) in
    let many : c.len.result ≡ length (task_numbers c.loop-first.trail.items) = omega (arith, c.len.ensures, length-map c.loop-first.trail.items (λ (t : TaskId). t.0), c.loop-first.trail.ok) in
    rw (c.in_ok-push.ensures.items, map_push (λ (t : TaskId). t.0) c.loop-first.trail.items c.loop-first.task, many) (
      IsTrail-step _ _ _ _ _ new c.loop-first.invariant.0 c.step_back-task.ensures,
      IsPlaced-step _ _ _ _ (task_in at) c.loop-first.invariant.1,
    )

pub first_waiting-task-requires : goal.first_waiting-task-requires
first_waiting-task-requires c = record { few = c.requires.few; some = c.requires.some }

pub step_back-task-requires : goal.step_back-task-requires
step_back-task-requires c = record {
  rows = c.requires.rows;
  task = task_in (goal.at.step_back-task-requires c).After-index;
  some = c.requires.stuck c.loop-first.task.0 c.loop-first.invariant.0.stands;
}

pub loop-first-init : goal.loop-first-init
loop-first-init c =
    let fresh = c.in_ok-places.ensures.items_if_clones_equal (search rules) in
    rw c.new-trail.ensures.items (IsTrail-start (IsWaiting c.args.pending.now) (Precedes c.args.predecessors.now) c.first_waiting-task.result.0 c.first_waiting-task.ensures, rw fresh (IsPlaced-start (length c.args.pending.now)))

pub index-requires : goal.index-requires
index-requires c =
    let inside = waiting_in c.args.pending.now c.loop-first.task.0 c.loop-first.invariant.0.stands in
    omega (arith, inside, c.loop-first.invariant.1.full, c.loop-first.places.ok)

pub index_mut-requires : goal.index_mut-requires
index_mut-requires c = omega (arith, task_in (goal.at.index_mut-requires c).After-index, c.loop-first.invariant.1.full, c.loop-first.places.ok)

pub overflow_cast-task : goal.overflow_cast-task
overflow_cast-task c = fits c.args.pending.now c.loop-first.task.0 c.requires.few c.loop-first.invariant.0.stands

pub overflow_cast-task-in-loop-first : goal.overflow_cast-task-in-loop-first
overflow_cast-task-in-loop-first c = fits c.args.pending.now c.loop-first.task.0 c.requires.few c.loop-first.invariant.0.stands
