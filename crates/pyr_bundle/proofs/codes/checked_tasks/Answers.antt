use Rattle.std.proofs.Common.{◌≡◌, ℕ, ◌<◌, ◌≤◌, [], All, ◌∙◌, sym, ap, subst, length, arith}
use Rattle.pyr_num.specs.declared.limits.TheConstants.Limits.{DATUMS}
use Rattle.pyr_bundle.specs.declared.raw_bundle.RawBundle.{RawBundle}
use Rattle.pyr_bundle.specs.declared.raw_task.RawTask.{RawTask}
use Rattle.pyr_bundle.specs.Law.{IsKept}
use Rattle.pyr_bundle.specs.Faults.{IsBroken}
use Rattle.pyr_bundle.specs.Raw.{datum_count, task_count, task_in, IsTaskWithinLimits}
use Rattle.pyr_bundle.specs.Tables.{FitsId}
use Rattle.pyr_bundle.specs.Laws.{accesses, codes}
use Rattle.pyr_bundle.specs.Parts.{bundle_task_of}
use Rattle.pyr_bundle.proofs.Typed.{fresh_small}
use Rattle.pyr_bundle.proofs.Scans.{told, before_all}
use Rattle.pyr_bundle.proofs.AccessLemmas.{task_is, reads_fresh, writes_fresh}
use Rattle.pyr_bundle.proofs.FaultPlaces.{code_kept, task_broken}
use Rattle.pyr_bundle.proofs.Mapped.{one_more, all_made}
use Rattle.pyr_bundle.proofs.codes.checked_tasks.Goals as goal

-- any task, for a place past the end
abbrev no_task : RawTask
no_task = record { locals = 0; reads = []; writes = []; code = [] }

-- the numbers of a task fit ids
reads_small : (raw : RawBundle) (t : ℕ) (task : RawTask) → datum_count raw ≤ DATUMS → IsKept (accesses raw) → t < task_count raw → task_in raw.tasks t ≡ task → All FitsId task.reads
reads_small raw t task few kept l is =
    subst (λ (x : RawTask). All FitsId x.reads) is (fresh_small (datum_count raw) (task_in raw.tasks t).reads few (reads_fresh raw t kept l))

writes_small : (raw : RawBundle) (t : ℕ) (task : RawTask) → datum_count raw ≤ DATUMS → IsKept (accesses raw) → t < task_count raw → task_in raw.tasks t ≡ task → All FitsId task.writes
writes_small raw t task few kept l is =
    subst (λ (x : RawTask). All FitsId x.writes) is (fresh_small (datum_count raw) (task_in raw.tasks t).writes few (writes_fresh raw t kept l))

pub checked_task-requires : goal.checked_task-requires
checked_task-requires c =
    let at = task_is c.args.raw.now.tasks _ c.loop-t.t c.task-item.result c.as_slice-task-items.ensures c.loop-t-test.true c.task-item.is in
    record {
      limits = subst IsTaskWithinLimits at.1 (c.requires.limits c.loop-t.t _ at.0);
      reads = reads_small c.args.raw.now c.loop-t.t c.task-item.result c.requires.few c.requires.accesses at.0 at.1;
      writes = writes_small c.args.raw.now c.loop-t.t c.task-item.result c.requires.few c.requires.accesses at.0 at.1;
    }

pub returns-in_err-checked_task-clause-fault : goal.returns-in_err-checked_task-clause-fault
returns-in_err-checked_task-clause-fault c =
    let at = task_is c.args.raw.now.tasks _ c.loop-t.t c.task-item.result c.as_slice-task-items.ensures c.loop-t-test.true c.task-item.is in
    told (IsBroken 4 (codes c.args.raw.now)) c.from_residual-in_err-checked_task.result c.in_err-checked_task.field-0.0 c.from_residual-in_err-checked_task.ensures.1
    (task_broken c.args.raw.now c.loop-t.t at.0 c.task-item.result at.1 c.loop-t.invariant.before _ c.in_err-checked_task.ensures.fault)

pub loop-t-preserved : goal.loop-t-preserved
loop-t-preserved c =
    let at = task_is c.args.raw.now.tasks _ c.loop-t.t c.task-item.result c.as_slice-task-items.ensures c.loop-t-test.true c.task-item.is in
    record {
      before = code_kept c.args.raw.now c.loop-t.t at.0 c.task-item.result at.1 c.loop-t.invariant.before c.in_ok-checked_task.ensures.ok;
      made = one_more bundle_task_of c.args.raw.now.tasks c.loop-t.t no_task _ _ _ at.0 c.loop-t.invariant.made (c.in_ok-checked_task.ensures.value ∙ ap bundle_task_of (sym at.1)) c.in_ok-push.ensures.items;
    }

pub returns : goal.returns
unfolding codes
returns c =
    let n = ap length c.as_slice-task-items.ensures in
    record {
      value = all_made bundle_task_of c.args.raw.now.tasks c.loop-t.t _ (omega arith) c.loop-t.invariant.made;
      ok = before_all _ c.loop-t.t (omega arith) c.loop-t.invariant.before;
      fault = tt;
    }
