use Rattle.std.proofs.Common.{◌≡◌, ℕ, ◌+◌, ◌∙◌, List, All, get_or, length, count_by, sym, ap, subst, arith}
use Rattle.pyr_bundle.specs.declared.raw_instr.RawInstr.{RawInstr}
use Rattle.pyr_bundle.specs.Tables.{IsSendBelow}
use Rattle.pyr_bundle.specs.Laws.{is_send_to, send_count}
use Rattle.pyr_bundle.proofs.Instrs.{row_is}
use Rattle.pyr_bundle.proofs.CountLemmas.{sends_below, code_part}
use Rattle.pyr_bundle.proofs.LinkLemmas.{AreLinks, link_more, link_none, link_row, links_are}
use Rattle.pyr_bundle.proofs.channels.links_of.Goals as goal
use Rattle.pyr_bundle.proofs.channels.links_of.Goals.{then-count-gt0+in_ok-push, else-count-gt0}

pub loop-from-init : goal.loop-from-init
loop-from-init c = record { are = c.new-links.ensures.items }

pub send_counts-requires-clause-below : goal.send_counts-requires-clause-below
send_counts-requires-clause-below c =
    let row = row_is c.args.raw.now.code _ c.loop-from.from c.code-item.result c.as_slice-code-items.ensures c.loop-from-test.true c.code-item.is in
    subst (λ (n : ℕ). All (IsSendBelow n) c.as_slice.result.now) (sym c.len.ensures)
    (subst (λ (x : List RawInstr). All (IsSendBelow (length c.args.raw.now.code)) x) (row ∙ sym c.as_slice.ensures) (sends_below c.args.raw.now c.loop-from.from c.requires.operands (let n = ap length c.as_slice-code-items.ensures in omega arith)))

pub send_counts-requires-clause-few : goal.send_counts-requires-clause-few
send_counts-requires-clause-few c =
    let row = row_is c.args.raw.now.code _ c.loop-from.from c.code-item.result c.as_slice-code-items.ensures c.loop-from-test.true c.code-item.is in
    let b = code_part c.args.raw.now.code c.loop-from.from (let n = ap length c.as_slice-code-items.ensures in omega arith) in
    let n = ap length (row ∙ sym c.as_slice.ensures) in
    omega arith

pub loop-to-preserved : goal.loop-to-preserved
loop-to-preserved c =
    let row = row_is c.args.raw.now.code _ c.loop-from.from c.code-item.result c.as_slice-code-items.ensures c.loop-from-test.true c.code-item.is in
    let value = c.deref-count-items.ensures.value in
    let full = c.in_ok-counts.ensures.full in
    let n = ap length value in
    let is : get_or c.deref-count-items.result.now c.loop-to.to 0 ≡ send_count c.args.raw.now.code c.loop-from.from c.loop-to.to =
    ap (λ (xs : List ℕ). get_or xs c.loop-to.to 0) value ∙ c.in_ok-counts.ensures.counts c.loop-to.to (omega arith)
    ∙ ap (count_by (is_send_to c.loop-to.to)) (sym (row ∙ sym c.as_slice.ensures)) in
    elim c.if-count-gt0.branch [
      | then-count-gt0+in_ok-push w ↦ link_more c.args.raw.now.code c.loop-to.links.items _ _ _ _ c.loop-to.invariant (let t = w.if-count-gt0.true in let e = w.from.ensures in omega arith) (w.from.ensures ∙ is) (ap (λ v. v.items) w.links-is ∙ w.in_ok-push.ensures.items)
      | else-count-gt0 w ↦ subst (λ v. AreLinks c.args.raw.now.code v.items c.loop-from.from (c.loop-to.to + 1)) (sym w.links-is) (link_none c.args.raw.now.code c.loop-to.links.items _ _ _ c.loop-to.invariant w.if-count-gt0.false is)
    ]

pub loop-from-preserved : goal.loop-from-preserved
loop-from-preserved c =
    let value = c.deref-count-items.ensures.value in
    let n = ap length value in
    let f = c.in_ok-counts.ensures.full in
    let e = c.len.ensures in
    let end = c.loop-to.auto.to-end in
    let t = c.loop-to-test.false in
    link_row c.args.raw.now.code c.loop-to.links.items c.loop-from.from c.loop-to.to (omega arith) c.loop-to.invariant

pub returns : goal.returns
returns c =
    links_are c.args.raw.now.code c.loop-from.links.items c.loop-from.from (let n = ap length c.as_slice-code-items.ensures in omega arith) c.loop-from.invariant
