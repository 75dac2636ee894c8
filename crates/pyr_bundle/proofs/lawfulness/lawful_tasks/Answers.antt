use Rattle.pyr_bundle.specs.Faults.{IsCause}
use Rattle.pyr_bundle.proofs.Scans.{told}
use Rattle.pyr_bundle.proofs.Causes.{cause_1, cause_2, cause_3, cause_4}
use Rattle.pyr_bundle.proofs.lawfulness.lawful_tasks.Goals as goal

pub returns-in_err-check_names-clause-fault : goal.returns-in_err-check_names-clause-fault
returns-in_err-check_names-clause-fault c =
    told (IsCause c.args.raw.now) c.from_residual.result c.in_err-check_names.field-0.0 c.from_residual.ensures.1 (cause_1 c.args.raw.now _ c.in_err-check_names.ensures.fault)

pub returns-in_err-check_accesses-clause-fault : goal.returns-in_err-check_accesses-clause-fault
returns-in_err-check_accesses-clause-fault c =
    told (IsCause c.args.raw.now) c.from_residual-in_err-check_accesses.result c.in_err-check_accesses.field-0.0 c.from_residual-in_err-check_accesses.ensures.1 (cause_2 c.args.raw.now _ c.in_ok-check_names.ensures.ok c.in_err-check_accesses.ensures.fault)

pub returns-in_err-check_writers-clause-fault : goal.returns-in_err-check_writers-clause-fault
returns-in_err-check_writers-clause-fault c =
    told (IsCause c.args.raw.now) c.from_residual-in_err-check_writers.result c.in_err-check_writers.field-0.0 c.from_residual-in_err-check_writers.ensures.1 (cause_3 c.args.raw.now _ c.in_ok-check_names.ensures.ok c.in_ok-check_accesses.ensures.ok c.in_err-check_writers.ensures.fault)

pub returns-in_err-tasks-clause-fault : goal.returns-in_err-tasks-clause-fault
returns-in_err-tasks-clause-fault c =
    told (IsCause c.args.raw.now) c.from_residual-in_err-tasks.result c.in_err-tasks.field-0.0 c.from_residual-in_err-tasks.ensures.1 (cause_4 c.args.raw.now _ c.in_ok-check_names.ensures.ok c.in_ok-check_accesses.ensures.ok c.in_ok-check_writers.ensures.ok c.in_err-tasks.ensures.fault)
