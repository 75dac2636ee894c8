use Rattle.std.proofs.Common.{◌≡◌, ℕ, ◌<◌, ◌-◌, List, arith, rules, length, get_or}
use Rattle.std.proofs.lemmas.List.{length-map}
use Rattle.pyr_num.specs.declared.ids.TaskId.{TaskId}
use Rattle.pyr_seq.specs.Walk.{IsTopological}
use Rattle.pyr_graph.specs.System.{System, task_count, task_numbers, IsEdge}
use Rattle.pyr_levels.specs.Levels.{weighed_graph}
use Rattle.pyr_levels.proofs.Places.{number_at, place_before, place_after}
use Rattle.pyr_levels.proofs.Bounds.{IsBlevel-bound}
use Rattle.pyr_levels.proofs.BackwardLemmas.{IsDoneFrom-start, IsDoneFrom-later, IsDoneFrom-step, IsDoneFrom-all}
use Rattle.pyr_levels.proofs.backward.bottom_levels.Goals as goal

pub loop-place-init : goal.loop-place-init
loop-place-init g c =
    let levels = c.in_ok-levels.ensures.items_if_clones_equal (search rules) in
    let full : length c.topological-order.result.now ≡ task_count c.args.graph.now = rw length-map at c.topological-order.ensures.order.full in
    rw (levels, full, c.task_count.ensures) (IsDoneFrom-start c.args.graph.now (weighed_graph c.args.graph.now (g.W.Weighing.left c.args.weighing.now)) (task_numbers c.topological-order.result.now))

pub bounds-order-place : goal.bounds-order-place
bounds-order-place g c = place_before c.loop-place.place _ c.loop-place-test.true c.loop-place.auto.place

-- the task at a place of the order is one of the tasks
task_at : (s : System) (order : List TaskId) → IsTopological (task_count s) (IsEdge s) (task_numbers order)
    → (next : ℕ) → next < length order → (get_or order next (record { 0 = 0 })).0 < task_count s
task_at s order top next inside = rw (← number_at order next inside) (top.tasks next 0 (rw length-map inside))

pub level_of-requires : goal.level_of-requires
level_of-requires g c =
    let graph = c.args.graph.now in
    let next = c.loop-place.place - 1 in
    let order = c.topological-order.result.now in
    let top = c.topological-order.ensures.order in
    let inside : next < length order = place_before c.loop-place.place _ c.loop-place-test.true c.loop-place.auto.place in
    let full : length order ≡ task_count graph = rw length-map at top.full in
    rw c.deref.ensures.value (record {
      known = c.requires.known;
      task_in = task_at graph order top next inside;
      no_more = c.requires.no_more;
      full = c.loop-place.invariant.full;
      later = rw (← number_at order next inside)
          (IsDoneFrom-later graph (weighed_graph graph (g.W.Weighing.left c.args.weighing.now)) (task_numbers order) top c.loop-place.place next _ (place_after c.loop-place.place c.loop-place-test.true) (rw (← full) inside) c.loop-place.invariant);
      small = c.loop-place.invariant.small;
    })

pub index_mut-requires : goal.index_mut-requires
index_mut-requires g c =
    let inside = place_before c.loop-place.place _ c.loop-place-test.true c.loop-place.auto.place in
    let known = task_at c.args.graph.now c.topological-order.result.now c.topological-order.ensures.order (c.loop-place.place - 1) inside in
    omega (arith, known, c.loop-place.invariant.full, c.loop-place.levels.ok)

pub loop-place-preserved : goal.loop-place-preserved
loop-place-preserved g c =
    let graph = c.args.graph.now in
    let order = c.topological-order.result.now in
    let next = c.loop-place.place - 1 in
    let top = c.topological-order.ensures.order in
    let inside : next < length order = place_before c.loop-place.place _ c.loop-place-test.true c.loop-place.auto.place in
    let full : length order ≡ task_count graph = rw length-map at top.full in
    let task_in = top.tasks next 0 (rw length-map inside) in
    let level = rw (← number_at order next inside) at c.level_of.ensures in
    rw (← number_at order next inside)
    (IsDoneFrom-step graph (weighed_graph graph (g.W.Weighing.left c.args.weighing.now)) (task_numbers order) top c.loop-place.place next _ _ (place_after c.loop-place.place c.loop-place-test.true) (rw (← full) inside) task_in level
    (IsBlevel-bound graph (g.W.Weighing.left c.args.weighing.now) c.requires.no_more (task_numbers order) c.well_formed-2.ensures.limits top _ _ task_in level) c.loop-place.invariant)

pub returns : goal.returns
returns g c =
    let zero : c.loop-place.place ≡ 0 = omega arith in
    record {
      levels = record { full = c.loop-place.invariant.full; each = IsDoneFrom-all _ _ _ c.topological-order.ensures.order _ (rw zero at c.loop-place.invariant) };
      small = c.loop-place.invariant.small;
    }
