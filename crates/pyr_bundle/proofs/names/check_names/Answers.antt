use Rattle.std.proofs.Common.{ap, ◌∙◌, length, bytes_eq, arith}
use Rattle.std.specs.HashSet.{contains}
use Rattle.pyr_bundle.specs.Laws.{names, names_of, is_new_name}
use Rattle.pyr_bundle.proofs.Scans.{before_all, single_more, single_breach, broken}
use Rattle.pyr_bundle.proofs.Seen.{name_at, name_more, name_new}
use Rattle.pyr_bundle.proofs.names.check_names.Goals as goal

pub returns-then-not-branch-clause-fault : goal.returns-then-not-branch-clause-fault
unfolding names
returns-then-not-branch-clause-fault c =
    let at = name_at c.args.raw.now.datums _ c.loop-d.d c.datum-item.result c.as_slice-datum-items.ensures c.loop-d-test.true c.datum-item.is in
    let n = ap length c.as_slice-datum-items.ensures in
    broken 1 _ _ _ _ c.law.ensures (single_breach _ (is_new_name (names_of c.args.raw.now.datums)) _ (omega arith) c.loop-d.invariant.before
    (name_new _ _ _ at (contains bytes_eq c.loop-d.seen) c.loop-d.invariant.seen _ c.in_ok-insert.ensures.added ∙ c.if-not-branch.true))

pub loop-d-preserved : goal.loop-d-preserved
unfolding names
loop-d-preserved c =
    let at = name_at c.args.raw.now.datums _ c.loop-d.d c.datum-item.result c.as_slice-datum-items.ensures c.loop-d-test.true c.datum-item.is in
    record {
      before = single_more _ (is_new_name (names_of c.args.raw.now.datums)) _ c.loop-d.invariant.before
          (name_new _ _ _ at (contains bytes_eq c.loop-d.seen) c.loop-d.invariant.seen _ c.in_ok-insert.ensures.added ∙ c.if-not-branch.false);
      seen = name_more _ _ _ at (contains bytes_eq c.loop-d.seen) (contains bytes_eq c.insert.new.self) c.loop-d.invariant.seen c.in_ok-insert.ensures.updates.0;
    }

pub returns-clause-ok : goal.returns-clause-ok
unfolding names
returns-clause-ok c =
    before_all _ c.loop-d.d (let n = ap length c.as_slice-datum-items.ensures in omega arith) c.loop-d.invariant.before
