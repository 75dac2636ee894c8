use Rattle.pyr_bundle.proofs.FaultPlaces.{task_made}
use Rattle.pyr_bundle.proofs.codes.checked_task.Goals as goal

pub returns-clause-value : goal.returns-clause-value
returns-clause-value c =
    task_made c.args.task.now _ _ _ _ _ c.in_ok-reads.ensures c.as_slice.ensures c.in_ok-writes.ensures c.as_slice-2.ensures c.in_ok-code.ensures.value
