use Rattle.std.proofs.lemmas.List.{length-set}
use Rattle.std.proofs.Common.{◌≡◌, ◌+◌, ℕ, length, get_or, arith}
use Rattle.pyr_bundle.proofs.Stamps.{fresh_at}
use Rattle.pyr_bundle.proofs.CountLemmas.{write_more, not_yet}
use Rattle.pyr_bundle.proofs.counts.count_writes.Goals as goal

pub offset_bounds-counts-number : goal.offset_bounds-counts-number
offset_bounds-counts-number c =
    let l = (fresh_at _ _ c.loop-number.number-index c.requires.fresh c.loop-number-test.true).0 in
    let n : length c.loop-number.counts ≡ length c.args.counts.now = c.loop-number.auto.counts in
    omega (arith, l)

pub bounds-counts-number : goal.bounds-counts-number
bounds-counts-number c = let l = (fresh_at _ _ c.loop-number.number-index c.requires.fresh c.loop-number-test.true).0 in let n = c.loop-number.auto.counts in omega (arith, l)

pub overflow_add-counts : goal.overflow_add-counts
overflow_add-counts c =
    let new = fresh_at _ _ c.loop-number.number-index c.requires.fresh c.loop-number-test.true in
    let n = c.loop-number.auto.counts in
    let x : ℕ = get_or c.args.writes.now c.loop-number.number-index 0 in
    let h = c.loop-number.invariant x (omega (arith, new.0)) in
    let few = c.requires.few x new.0 in
    not_yet c.loop-number.counts c.args.counts.now c.args.writes.now c.loop-number.number-index x new.1 h few

pub bounds-counts-number-in-loop-number : goal.bounds-counts-number-in-loop-number
bounds-counts-number-in-loop-number c = let l = (fresh_at _ _ c.loop-number.number-index c.requires.fresh c.loop-number-test.true).0 in let n = c.loop-number.auto.counts in omega (arith, l)

pub loop-number-preserved : goal.loop-number-preserved
loop-number-preserved c = λ d k.
    write_more c.loop-number.counts c.args.counts.now c.args.writes.now c.loop-number.number-index c.requires.fresh c.loop-number.auto.counts c.loop-number-test.true c.loop-number.invariant d (let n = length-set c.loop-number.counts (get_or c.args.writes.now c.loop-number.number-index 0) (get_or c.loop-number.counts (get_or c.args.writes.now c.loop-number.number-index 0) 0 + 1) in omega (arith, k))
