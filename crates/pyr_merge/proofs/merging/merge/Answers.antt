use Rattle.std.proofs.Common.{◌≡◌, ℕ, ◌+◌, set, ap, add-one, arith, ◌∙◌, length, get_or, replicate, refl}
use Rattle.std.proofs.lemmas.Grind.{get_or_default_zero}
use Rattle.pyr_num.specs.declared.ids.ProcId.{ProcId}
use Rattle.pyr_graph.specs.System.{task_numbers}
use Rattle.pyr_graph.specs.Clusters.{cluster_numbers}
use Rattle.pyr_merge.specs.declared.weighed.Weighed.{Weighed}
use Rattle.pyr_merge.proofs.RowLemmas.{row-inside, row-tasks, written}
use Rattle.pyr_merge.proofs.DealLemmas.{IsDealing-start, IsDealing-room, IsMerged-from_dealing}
use Rattle.pyr_merge.proofs.StepLemmas.{next-inside, IsDealing-step}
use Rattle.pyr_merge.proofs.merging.merge.Goals as goal

pub by_falling_load-requires : goal.by_falling_load-requires
by_falling_load-requires c = rw c.as_slice-clusters.ensures c.requires.partition

pub loop-next-init : goal.loop-next-init
loop-next-init c =
    let first : ProcId = record { 0 = 0 } in
    IsDealing-start _ _ _ _ c.in_ok-loads.loads.items c.in_ok-of.of.items c.requires.some (c.in_ok-loads.ensures.items_if_clones_equal (λ y h. h)) (c.in_ok-of.ensures.items_if_clones_equal (λ y h. h) ∙ ap (λ (n : ℕ). replicate n first) c.task_count.ensures)

pub least_loaded-processor-requires : goal.least_loaded-processor-requires
least_loaded-processor-requires c = rw (c.deref.ensures.value, c.loop-next.invariant.loads_full) c.requires.some

pub index_mut-requires : goal.index_mut-requires
index_mut-requires c = rw (← c.deref.ensures.len) c.least_loaded-processor.ensures.inside

pub overflow_add-index_mut : goal.overflow_add-index_mut
overflow_add-index_mut c =
    let least = rw c.deref.ensures.value at c.least_loaded-processor.ensures in
    let at_p = c.index_mut.ensures.value ∙ get_or_default_zero c.loop-next.loads.items c.least_loaded-processor.result c.index_mut.result.now least.inside in
    let d : Weighed = record { load = record { 0 = 0 }; cluster = 0 } in
    let room = IsDealing-room c.args.graph.now (cluster_numbers c.args.clustering.now.clusters) c.args.processors c.deref-next-items.result.now c.loop-next.next-index c.least_loaded-processor.result d c.loop-next.loads.items c.loop-next.of.items
    c.loop-next.invariant c.loop-next-test.true least.inside (rw (← c.deref-next-items.ensures.value) at c.in_ok-order.ensures.small) in
    omega (arith, room, at_p)

pub overflow_cast-processor : goal.overflow_cast-processor
overflow_cast-processor c =
    let inside = rw (c.deref.ensures.value, c.loop-next.invariant.loads_full) at c.least_loaded-processor.ensures.inside in
    omega (arith, inside, c.requires.few)

pub bounds-clusters-next : goal.bounds-clusters-next
bounds-clusters-next c =
    next-inside c.as_slice-clusters.result.now c.deref-next-items.result.now c.in_ok-order.order.items c.loop-next.next-index (record { load = record { 0 = 0 }; cluster = 0 })
    c.deref-next-items.ensures.value c.loop-next-test.true c.in_ok-order.ensures.order.numbers

pub offset_bounds-clusters-next : goal.offset_bounds-clusters-next
offset_bounds-clusters-next c =
    let less = next-inside c.as_slice-clusters.result.now c.deref-next-items.result.now c.in_ok-order.order.items c.loop-next.next-index (record { load = record { 0 = 0 }; cluster = 0 })
    c.deref-next-items.ensures.value c.loop-next-test.true c.in_ok-order.ensures.order.numbers in
    omega (arith, less)

pub put_on-requires : goal.put_on-requires
put_on-requires c =
    let d : Weighed = record { load = record { 0 = 0 }; cluster = 0 } in
    let clusters = c.args.clustering.now.clusters in
    let next = (get_or c.deref-next-items.result.now c.loop-next.next-index d).cluster in
    let less = next-inside clusters c.deref-next-items.result.now c.in_ok-order.order.items c.loop-next.next-index d
    c.deref-next-items.ensures.value c.loop-next-test.true (rw c.as_slice-clusters.ensures at c.in_ok-order.ensures.order.numbers) in
    rw (c.as_slice-tasks.ensures, c.deref_mut.ensures.value, c.loop-next.invariant.full)
    (row-inside c.args.graph.now clusters c.requires.partition next c.index-clusters-next.result less (rw c.as_slice-clusters.ensures at c.index-clusters-next.is))

pub loop-next-preserved : goal.loop-next-preserved
loop-next-preserved c =
    let d : Weighed = record { load = record { 0 = 0 }; cluster = 0 } in
    let clusters = c.args.clustering.now.clusters in
    let order = c.deref-next-items.result.now in
    let next = (get_or order c.loop-next.next-index d).cluster in
    let less = next-inside clusters order c.in_ok-order.order.items c.loop-next.next-index d
    c.deref-next-items.ensures.value c.loop-next-test.true (rw c.as_slice-clusters.ensures at c.in_ok-order.ensures.order.numbers) in
    let row = row-tasks clusters next c.index-clusters-next.result less (rw c.as_slice-clusters.ensures at c.index-clusters-next.is) in
    let full : length c.put_on.new.of ≡ length c.loop-next.of.items = c.put_on.auto.of ∙ ap length c.deref_mut.ensures.value in
    let whole : length c.put_on.new.of ≡ c.loop-next.of.len = omega (arith, c.put_on.auto.of, c.deref_mut.ensures.len) in
    let least = rw c.deref.ensures.value at c.least_loaded-processor.ensures in
    let at_p = c.index_mut.ensures.value ∙ get_or_default_zero c.loop-next.loads.items c.least_loaded-processor.result c.index_mut.result.now least.inside in
    rw (written c.loop-next.of.len c.put_on.new.of c.loop-next.of.items whole, add-one)
    (IsDealing-step c.args.graph.now (cluster_numbers clusters) c.args.processors order c.loop-next.next-index d c.requires.partition
    (rw (← c.deref-next-items.ensures.value, c.as_slice-clusters.ensures) at c.in_ok-order.ensures.order)
    (rw (← c.deref-next-items.ensures.value, c.as_slice-clusters.ensures) at c.in_ok-order.ensures.loads)
    c.loop-next-test.true c.least_loaded-processor.result (task_numbers c.index-clusters-next.result) row
    c.loop-next.loads.items c.loop-next.of.items c.put_on.new.of c.loop-next.invariant least full
    (rw (c.as_slice-tasks.ensures, c.deref_mut.ensures.value) at c.put_on.ensures)
    _ (ap (λ (n : ℕ). set c.loop-next.loads.items c.least_loaded-processor.result (n + (get_or order c.loop-next.next-index d).load.0)) at_p))

pub returns : goal.returns
returns c =
    let dealing = c.loop-next.invariant in
    rw c.from_vec.ensures (record {
      merged = IsMerged-from_dealing _ _ _ _ c.loop-next.next-index c.in_ok-order.order.items c.loop-next.loads.items c.loop-next.of.items dealing c.loop-next-test.false c.deref-next-items.ensures.value
          (rw c.as_slice-clusters.ensures at c.in_ok-order.ensures.order);
      processors = refl;
      full = dealing.full;
      inside = dealing.inside;
    })
