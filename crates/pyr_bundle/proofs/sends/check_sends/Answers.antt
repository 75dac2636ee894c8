use Rattle.std.proofs.Common.{◌≡◌, ◌==◌, ◌&&◌, ◌||◌, take, ℕ, Bool, true, cond, get_or, sym, ap, ◌∙◌, length, arith}
use Rattle.std.specs.Prelude.{None}
use Rattle.std.specs.List.{list_any}
use Rattle.std.specs.HashSet.{HashSet, contains}
use Rattle.std.specs.declared.hash.FoldHasher.{FoldHasher}
use Rattle.std.specs.declared.hash.BuildHasherDefault.{BuildHasherDefault}
use Rattle.pyr_bundle.specs.declared.raw_instr.RawInstr.TheVariants.{Recv}
use Rattle.pyr_bundle.specs.Tables.{sent}
use Rattle.pyr_bundle.specs.Laws.{by_instr, is_send, is_new_send, sends}
use Rattle.pyr_bundle.proofs.Seen.{sends_more}
use Rattle.pyr_bundle.proofs.Scans.{before_all, broken, not_some}
use Rattle.pyr_bundle.proofs.Instrs.{at_place, row_ends, instr_more, row_more, instr_breach}
use Rattle.pyr_bundle.proofs.Seen.{send_more, send_new, other_send, other_send_new}
use Rattle.pyr_bundle.proofs.sends.check_sends.Goals as goal
use Rattle.pyr_bundle.proofs.sends.check_sends.Goals.{in-Some+in_ok-insert+else-not-branch, in_default}

-- the set holds the pair
abbrev held : HashSet (ℕ × ℕ) (BuildHasherDefault FoldHasher) → ℕ → ℕ → Bool
held set q d = contains (λ x y. (x.0 == y.0) && (x.1 == y.1)) set (q, d)

pub returns-then-not-branch-clause-fault : goal.returns-then-not-branch-clause-fault
unfolding sends
returns-then-not-branch-clause-fault c =
    let at = at_place c.args.raw.now.code _ c.loop-p.p c.code-item.result _ c.loop-i.i (Recv 0 0) c.as_slice-code-items.ensures c.loop-p-test.true c.code-item.is c.as_slice-instr-items.ensures c.loop-i-test.true in
    broken 8 _ _ _ _ c.law.ensures (instr_breach c.args.raw.now.code (is_new_send c.args.raw.now.code) _ _ _ at
    (send_new c.args.raw.now.code c.loop-p.p c.loop-i.i _ _ (sym c.in-Some.ensures) (held c.loop-i.seen) c.loop-i.invariant.seen _ c.in_ok-insert.ensures.added ∙ c.if-not-branch.true) c.loop-i.invariant.before)

pub loop-i-preserved : goal.loop-i-preserved
unfolding sends
loop-i-preserved c =
    let at = at_place c.args.raw.now.code _ c.loop-p.p c.code-item.result _ c.loop-i.i (Recv 0 0) c.as_slice-code-items.ensures c.loop-p-test.true c.code-item.is c.as_slice-instr-items.ensures c.loop-i-test.true in
    elim c.match-sent.branch [
      | in-Some+in_ok-insert+else-not-branch w ↦ let is = sym w.in-Some.ensures in
          let seen : (q d : ℕ) → held c.match-sent.seen q d ≡ cond ((w.in-Some.pair.0 == q) && (w.in-Some.pair.1 == d)) true (held c.loop-i.seen q d) = λ q d. ap (λ s. held s q d) w.seen-is ∙ w.in_ok-insert.ensures.updates.0 (q, d) in
          record {
            before = instr_more c.args.raw.now.code (is_new_send c.args.raw.now.code) _ _ _ at (send_new c.args.raw.now.code c.loop-p.p c.loop-i.i _ _ is (held c.loop-i.seen) c.loop-i.invariant.seen _ w.in_ok-insert.ensures.added ∙ w.if-not-branch.false) c.loop-i.invariant.before;
            seen = send_more c.args.raw.now.code c.loop-p.p c.loop-i.i _ _ at is (held c.loop-i.seen) (held c.match-sent.seen) c.loop-i.invariant.seen seen;
          }
      | in_default w ↦
          let is : sent (get_or c.as_slice-instr-items.result.now c.loop-i.i (Recv 0 0)) ≡ None = sym c.sent.ensures ∙ not_some _ w.in_default.not-Some in
          record {
            before = instr_more c.args.raw.now.code (is_new_send c.args.raw.now.code) _ _ _ at (other_send_new c.args.raw.now.code c.loop-p.p c.loop-i.i _ is) c.loop-i.invariant.before;
            seen = λ q d. ap (λ s. held s q d) w.seen-is ∙ c.loop-i.invariant.seen q d ∙ ap (λ b. list_any (list_any (is_send q d)) (take c.loop-p.p c.args.raw.now.code) || b) (sym (other_send c.args.raw.now.code c.loop-p.p c.loop-i.i q d _ at is));
          }
    ]

pub loop-p-preserved : goal.loop-p-preserved
unfolding sends
loop-p-preserved c = record {
  before = row_more c.args.raw.now.code (is_new_send c.args.raw.now.code) _ _ (row_ends c.args.raw.now.code _ c.loop-p.p c.code-item.result _ c.loop-i.i c.as_slice-code-items.ensures c.loop-p-test.true c.code-item.is c.as_slice-instr-items.ensures (omega arith)) c.loop-i.invariant.before;
  seen = λ q d. c.loop-i.invariant.seen q d ∙ sends_more c.args.raw.now.code c.loop-p.p c.loop-i.i (is_send q d) (let n = ap length c.as_slice-code-items.ensures in omega arith) (row_ends c.args.raw.now.code _ c.loop-p.p c.code-item.result _ c.loop-i.i c.as_slice-code-items.ensures c.loop-p-test.true c.code-item.is c.as_slice-instr-items.ensures (omega arith));
}

pub returns-clause-ok : goal.returns-clause-ok
unfolding sends
returns-clause-ok c =
    before_all (by_instr c.args.raw.now.code (is_new_send c.args.raw.now.code)) c.loop-p.p (let n = ap length c.as_slice-code-items.ensures in omega arith) c.loop-p.invariant.before
