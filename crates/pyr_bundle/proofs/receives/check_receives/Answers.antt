use Rattle.std.proofs.Common.{◌≡◌, ℕ, true, cond, get_or, sym, ap, ◌∙◌, length, arith}
use Rattle.std.specs.Prelude.{nat_eq, None}
use Rattle.std.specs.HashSet.{contains}
use Rattle.pyr_bundle.specs.declared.raw_instr.RawInstr.TheVariants.{Recv}
use Rattle.pyr_bundle.specs.Tables.{received}
use Rattle.pyr_bundle.specs.Laws.{by_instr, is_new_receive, receives}
use Rattle.pyr_bundle.proofs.Scans.{before_all, broken, not_some}
use Rattle.pyr_bundle.proofs.Instrs.{at_place, row_ends, instr_more, row_more, instr_breach}
use Rattle.pyr_bundle.proofs.Seen.{receive_more, receive_new, other_receive, other_receive_new}
use Rattle.pyr_bundle.proofs.receives.check_receives.Goals as goal
use Rattle.pyr_bundle.proofs.receives.check_receives.Goals.{in-Some+in_ok-insert+else-not-branch, in_default}

pub returns-then-not-branch-clause-fault : goal.returns-then-not-branch-clause-fault
unfolding receives
returns-then-not-branch-clause-fault c =
    let at = at_place c.args.raw.now.code _ c.loop-p.p c.code-item.result _ c.loop-i.i (Recv 0 0) c.as_slice-code-items.ensures c.loop-p-test.true c.code-item.is c.as_slice-instr-items.ensures c.loop-i-test.true in
    broken 9 _ _ _ _ c.law.ensures (instr_breach c.args.raw.now.code (is_new_receive c.args.raw.now.code) _ _ _ at
    (receive_new c.args.raw.now.code c.loop-p.p c.loop-i.i _ _ (sym c.in-Some.ensures) (contains nat_eq c.loop-i.seen) c.loop-i.invariant.seen _ c.in_ok-insert.ensures.added ∙ c.if-not-branch.true) c.loop-i.invariant.before)

pub loop-i-preserved : goal.loop-i-preserved
unfolding receives
loop-i-preserved c =
    let at = at_place c.args.raw.now.code _ c.loop-p.p c.code-item.result _ c.loop-i.i (Recv 0 0) c.as_slice-code-items.ensures c.loop-p-test.true c.code-item.is c.as_slice-instr-items.ensures c.loop-i-test.true in
    elim c.match-received.branch [
      | in-Some+in_ok-insert+else-not-branch w ↦ let is = sym w.in-Some.ensures in
          let seen : (d : ℕ) → contains nat_eq c.match-received.seen d ≡ cond (nat_eq w.in-Some.datum d) true (contains nat_eq c.loop-i.seen d) = λ d. ap (λ s. contains nat_eq s d) w.seen-is ∙ w.in_ok-insert.ensures.updates.0 d in
          record {
            before = instr_more c.args.raw.now.code (is_new_receive c.args.raw.now.code) _ _ _ at (receive_new c.args.raw.now.code c.loop-p.p c.loop-i.i _ _ is (contains nat_eq c.loop-i.seen) c.loop-i.invariant.seen _ w.in_ok-insert.ensures.added ∙ w.if-not-branch.false) c.loop-i.invariant.before;
            seen = receive_more c.args.raw.now.code c.loop-p.p c.loop-i.i _ _ at is (contains nat_eq c.loop-i.seen) (contains nat_eq c.match-received.seen) c.loop-i.invariant.seen seen;
          }
      | in_default w ↦
          let is : received (get_or c.as_slice-instr-items.result.now c.loop-i.i (Recv 0 0)) ≡ None = sym c.received.ensures ∙ not_some _ w.in_default.not-Some in
          record {
            before = instr_more c.args.raw.now.code (is_new_receive c.args.raw.now.code) _ _ _ at (other_receive_new c.args.raw.now.code c.loop-p.p c.loop-i.i _ is) c.loop-i.invariant.before;
            seen = λ d. ap (λ s. contains nat_eq s d) w.seen-is ∙ c.loop-i.invariant.seen d ∙ sym (other_receive c.args.raw.now.code c.loop-p.p c.loop-i.i d _ at is);
          }
    ]

pub loop-p-preserved : goal.loop-p-preserved
unfolding receives
loop-p-preserved c =
    row_more c.args.raw.now.code (is_new_receive c.args.raw.now.code) _ _ (row_ends c.args.raw.now.code _ c.loop-p.p c.code-item.result _ c.loop-i.i c.as_slice-code-items.ensures c.loop-p-test.true c.code-item.is c.as_slice-instr-items.ensures (omega arith)) c.loop-i.invariant.before

pub returns-clause-ok : goal.returns-clause-ok
unfolding receives
returns-clause-ok c =
    before_all (by_instr c.args.raw.now.code (is_new_receive c.args.raw.now.code)) c.loop-p.p (let n = ap length c.as_slice-code-items.ensures in omega arith) c.loop-p.invariant
