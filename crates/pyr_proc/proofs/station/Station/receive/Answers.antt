use Rattle.std.proofs.Common.{◌∙◌, refl, sym}
use Rattle.pyr_bundle.specs.declared.instr.Instr.TheVariants.{Recv}
use Rattle.pyr_proc.proofs.RunningLemmas.{stands_on, named, is_short, goes_same, goes_further, move_goes, may_take, take_goes, take_place}
use Rattle.pyr_proc.proofs.station.Station.receive.Goals as goal

pub loop-init : goal.loop-init
loop-init c d = (tt, tt, λ frame r. goes_same frame d.args.self.now r, refl)

pub move_out-requires-clause-known : goal.move_out-requires-clause-known
move_out-requires-clause-known c d =
    let i = d.loop.invariant in
    let r = d.requires.running in
    let on = i.2 r.0 r.1 in
    (named r.0 d.loop.self (Recv d.args.from d.args.datum) on.running (stands_on r.0 d.args.self.now d.loop.self (Recv d.args.from d.args.datum) on i.3 d.requires.at)).1

pub move_out-requires-clause-short : goal.move_out-requires-clause-short
move_out-requires-clause-short c d =
    let i = d.loop.invariant in
    let r = d.requires.running in
    let on = i.2 r.0 r.1 in
    is_short r.0 d.loop.self (Recv d.args.from d.args.datum) on.running (stands_on r.0 d.args.self.now d.loop.self (Recv d.args.from d.args.datum) on i.3 d.requires.at)

pub returns-then-move_out-clause-goes_on : goal.returns-then-move_out-clause-goes_on
returns-then-move_out-clause-goes_on c d frame r =
    let i = d.loop.invariant in
    let on = i.2 frame r in
    let moved = d.if-move_out.ensures in
    goes_further frame d.args.self.now d.loop.self d.move_out.new.self on
    (move_goes frame d.loop.self d.move_out.new.self d.args.from d.args.datum on.running (stands_on frame d.args.self.now d.loop.self (Recv d.args.from d.args.datum) on i.3 d.requires.at)
    (sym moved.there) (moved.moved refl))

pub take_in-requires-clause-more : goal.take_in-requires-clause-more
take_in-requires-clause-more c d =
    let i = d.loop.invariant in
    let r = d.requires.running in
    let on = i.2 r.0 r.1 in
    let kept = d.if-move_out.ensures in
    rw (kept.kept refl)
    (may_take r.0 d.loop.self d.args.from d.args.datum on.running (stands_on r.0 d.args.self.now d.loop.self (Recv d.args.from d.args.datum) on i.3 d.requires.at) (sym kept.there)).more

pub take_in-requires-clause-room : goal.take_in-requires-clause-room
take_in-requires-clause-room c d =
    let i = d.loop.invariant in
    let r = d.requires.running in
    let on = i.2 r.0 r.1 in
    let kept = d.if-move_out.ensures in
    rw (kept.kept refl)
    (may_take r.0 d.loop.self d.args.from d.args.datum on.running (stands_on r.0 d.args.self.now d.loop.self (Recv d.args.from d.args.datum) on i.3 d.requires.at) (sym kept.there)).room

pub take_in-requires-clause-can : goal.take_in-requires-clause-can
take_in-requires-clause-can c d =
    let i = d.loop.invariant in
    let r = d.requires.running in
    let on = i.2 r.0 r.1 in
    let kept = d.if-move_out.ensures in
    rw (kept.kept refl)
    (may_take r.0 d.loop.self d.args.from d.args.datum on.running (stands_on r.0 d.args.self.now d.loop.self (Recv d.args.from d.args.datum) on i.3 d.requires.at) (sym kept.there)).can

pub loop-preserved : goal.loop-preserved
loop-preserved c d =
    let i = d.loop.invariant in
    let kept = d.if-move_out.ensures in
    let took = rw (kept.kept refl) at d.take_in.ensures in (
      tt,
      tt,
      λ frame r.
          let on = i.2 frame r in
          goes_further frame d.args.self.now d.loop.self d.take_in.new.self on
          (take_goes frame d.loop.self d.take_in.new.self d.args.from d.args.datum on.running (stands_on frame d.args.self.now d.loop.self (Recv d.args.from d.args.datum) on i.3 d.requires.at) (sym kept.there) took),
      take_place d.args.from.0 d.loop.self d.take_in.new.self took ∙ i.3,
    )
