use Rattle.std.proofs.Common.{◌≡◌, ◌+◌, ℕ, List, length, sym, ap, ◌∙◌, arith}
use Rattle.pyr_bundle.specs.declared.raw_task.RawTask.{RawTask}
use Rattle.pyr_bundle.specs.declared.bundle_fault.BundleFault.TheVariants.{Law as LawFault}
use Rattle.pyr_bundle.specs.Law.{Law, IsKept, IsFirstBreach}
use Rattle.pyr_bundle.specs.Laws.{accesses}
use Rattle.pyr_bundle.proofs.Scans.{before_all, broken}
use Rattle.pyr_bundle.proofs.Stamps.{moved}
use Rattle.pyr_bundle.proofs.AccessLemmas.{task_is, reads_breach, writes_breach, lists_kept}
use Rattle.pyr_bundle.proofs.numbers.check_lists.Goals as goal

-- the lists that are lent are those of the task
reads_are : (task at : RawTask) (lent : List ℕ) → at ≡ task → lent ≡ task.reads → lent ≡ at.reads
reads_are task at lent e f = f ∙ ap (λ (t : RawTask). t.reads) (sym e)

writes_are : (task at : RawTask) (lent : List ℕ) → at ≡ task → lent ≡ task.writes → lent ≡ at.writes
writes_are task at lent e f = f ∙ ap (λ (t : RawTask). t.writes) (sym e)

pub returns-in-Some-clause-fault : goal.returns-in-Some-clause-fault
returns-in-Some-clause-fault c =
    let at = task_is c.args.raw.now.tasks _ c.loop-t.t c.task-item.result c.as_slice-task-items.ensures c.loop-t-test.true c.task-item.is in
    broken 2 _ _ _ _ c.law.ensures (reads_breach c.args.raw.now c.loop-t.t at.0 c.loop-t.invariant.before c.in-Some.i
    (moved (λ (law : Law). IsFirstBreach law c.in-Some.i 0) _ _ _ _ (c.loop-t.auto.named ∙ c.requires.full) (reads_are _ _ _ at.1 c.as_slice-reads.ensures) c.in-Some.ensures.found))

pub returns-in-Some-first_stale-clause-fault : goal.returns-in-Some-first_stale-clause-fault
returns-in-Some-first_stale-clause-fault c =
    let at = task_is c.args.raw.now.tasks _ c.loop-t.t c.task-item.result c.as_slice-task-items.ensures c.loop-t-test.true c.task-item.is in
    let reads = reads_are _ _ _ at.1 c.as_slice-reads.ensures in
    let l : c.law-in-Some-first_stale.result ≡ _ = c.law-in-Some-first_stale.ensures in
    broken 2 _ _ _ _ (l ∙ ap (λ (x : List ℕ). LawFault 2 c.loop-t.t (length x + c.in-Some-first_stale.i)) reads)
    (writes_breach c.args.raw.now c.loop-t.t at.0 c.loop-t.invariant.before c.in-Some-first_stale.i
    (moved IsKept _ _ _ _ (c.loop-t.auto.named ∙ c.requires.full) reads c.in_default.ensures.found)
    (moved (λ (law : Law). IsFirstBreach law c.in-Some-first_stale.i 0) _ _ _ _ (c.first_stale.auto.named ∙ c.loop-t.auto.named ∙ c.requires.full) (writes_are _ _ _ at.1 c.as_slice.ensures) c.in-Some-first_stale.ensures.found))

pub loop-t-preserved : goal.loop-t-preserved
loop-t-preserved c =
    let at = task_is c.args.raw.now.tasks _ c.loop-t.t c.task-item.result c.as_slice-task-items.ensures c.loop-t-test.true c.task-item.is in
    record {
      before = lists_kept c.args.raw.now c.loop-t.t at.0 c.loop-t.invariant.before
          (moved IsKept _ _ _ _ (c.loop-t.auto.named ∙ c.requires.full) (reads_are _ _ _ at.1 c.as_slice-reads.ensures) c.in_default.ensures.found)
          (moved IsKept _ _ _ _ (c.first_stale.auto.named ∙ c.loop-t.auto.named ∙ c.requires.full) (writes_are _ _ _ at.1 c.as_slice.ensures) c.in_default-first_stale.ensures.found);
      low = λ k d l. let h = c.in_default-first_stale.ensures.round k d l in omega arith;
    }

pub returns-clause-ok : goal.returns-clause-ok
unfolding accesses
returns-clause-ok c =
    before_all _ c.loop-t.t (let n = ap length c.as_slice-task-items.ensures in omega arith) c.loop-t.invariant.before
