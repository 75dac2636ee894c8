use Rattle.std.proofs.Common.{◌≡◌, ◌∙◌, List, length, sym, ap, subst, arith}
use Rattle.pyr_num.specs.declared.ids.ProcId.{ProcId}
use Rattle.pyr_team.specs.Homes.{KeepsHomes}
use Rattle.pyr_team.proofs.HomeLemmas.{AreSettled, written_back, settled_more, all_settled}
use Rattle.pyr_team.proofs.homes.homes.Goals as goal

pub loop-p-preserved : goal.loop-p-preserved
loop-p-preserved c =
    let b = c.args.bundle.now in
    let items = c.loop-p.homes.items in
    let new = c.settle_processor.new.homes in
    let same : length new ≡ length items = c.settle_processor.auto.homes ∙ ap (λ (v : List ProcId). length v) c.deref_mut.ensures.value in
    let keeps : KeepsHomes b items new = subst (λ (v : List ProcId). KeepsHomes b v new) c.deref_mut.ensures.value c.settle_processor.ensures.kept in
    subst (AreSettled b _) (sym (written_back _ new items same (sym c.loop-p.homes.ok.0)))
    (settled_more b c.loop-p.p items new c.loop-p.invariant same keeps c.settle_processor.ensures.settled)

pub returns : goal.returns
returns c =
    all_settled c.args.bundle.now c.loop-p.p c.loop-p.homes.items c.well_formed-2.ensures (let n = c.loop-p-test.false in let m = c.processors-p-end.ensures in omega arith) c.loop-p.invariant
