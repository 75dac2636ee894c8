use Rattle.std.proofs.Common.{◌≡◌, ◌∙◌, ◌+◌, sym, ap, subst, List, length, Some, slice_get, arith}
use Rattle.std.specs.Vec.Iter.{into_iter_items}
use Rattle.pyr_bundle.specs.Parts.{Parts, processor_count}
use Rattle.pyr_ends.specs.declared.ends.Ends.{Ends}
use Rattle.pyr_proc.specs.Seated.{AreFresh}
use Rattle.pyr_proc.specs.Making.{AreSeated}
use Rattle.pyr_proc.proofs.Linked.{channels_between, channels_cover}
use Rattle.pyr_proc.proofs.MakingLemmas.{next_ends, seated_more, seated_all}
use Rattle.pyr_proc.proofs.making.seats.Goals as goal

pub wires-requires-clause-between : goal.wires-requires-clause-between
wires-requires-clause-between g c =
    rw (c.channels.ensures, c.processors.ensures, c.bundle-bundle.ensures) (channels_between c.args.loaded.now.bundle c.is_good.ensures.bundle)

pub wires-requires-clause-covers : goal.wires-requires-clause-covers
wires-requires-clause-covers g c =
    rw (c.channels.ensures, c.processors.ensures, c.bundle-bundle.ensures) (channels_cover c.args.loaded.now.bundle c.args.frames c.is_good.ensures.bundle)

pub fresh_seat-requires-clause-ends : goal.fresh_seat-requires-clause-ends
fresh_seat-requires-clause-ends g c =
    let start = c.into_iter-ends-iterator.result in
    let h = c.loop-ends.invariant.2 in
    let at : slice_get (into_iter_items start) c.loop-ends.number ≡ Some c.in-Some.ends = next_ends c.bundle-bundle.result.now c.args.frames c.loop-ends.number _ _ _ c.loop-ends.seats.items c.in-Some.ends c.in-Some.ensures.steps.0 h in
    let items = c.into_iter-ends-iterator.ensures.into_iter_gives.0 in
    let made = c.in_ok-all.ensures.ends c.loop-ends.number c.in-Some.ends (ap (λ (l : List Ends). slice_get l c.loop-ends.number) (sym items) ∙ at) in
    let here = rw (c.processors.ensures, c.channels.ensures, c.bundle-bundle.ensures) at made in
    rw c.bundle-bundle.ensures here

pub loop-ends-preserved : goal.loop-ends-preserved
loop-ends-preserved g c =
    let h = c.loop-ends.invariant in
    let next = c.in-Some.ensures.steps in
    let fewer = ap (λ (x : List Ends). length x) next.0 in (
      tt,
      tt,
      subst (AreSeated c.bundle-bundle.result.now c.args.frames (c.loop-ends.number + 1) _ _) (sym c.push_reserved.ensures.items)
          (seated_more c.bundle-bundle.result.now c.args.frames c.loop-ends.number _ _ _ c.loop-ends.seats.items c.in-Some.ends c.in_ok-fresh_seat.field-0 next.0 c.in_ok-fresh_seat.ensures h.2),
      (let n = c.push_reserved.ensures.len in let m = c.push_reserved.ensures.capacity in let k = h.3 in omega arith),
      (let n = next.1 in let k = h.4 in omega arith),
    )

pub returns : goal.returns
returns g c =
    let h = c.loop-ends.invariant in
    let none = c.in-None.ensures.steps.0 in
    let count : length (into_iter_items c.into_iter-ends-iterator.result) ≡ processor_count c.bundle-bundle.result.now =
    ap (λ (l : List Ends). length l) c.into_iter-ends-iterator.ensures.into_iter_gives.0 ∙ c.in_ok-all.ensures.count ∙ c.processors.ensures in
    subst (λ (b : Parts). AreFresh b c.args.frames c.loop-ends.seats.items) c.bundle-bundle.ensures
    (seated_all c.bundle-bundle.result.now c.args.frames c.loop-ends.number (into_iter_items c.into_iter-ends-iterator.result) (into_iter_items c.loop-ends.ends-iterator) c.loop-ends.seats.items count (sym h.4 ∙ none) h.2)
