use Rattle.pyr_bundle.specs.Faults.{IsCause}
use Rattle.pyr_bundle.proofs.Scans.{told}
use Rattle.pyr_bundle.proofs.Causes.{cause_5, cause_6, cause_7, cause_8, cause_9, cause_10, cause_11}
use Rattle.pyr_bundle.proofs.lawfulness.check_others.Goals as goal

pub returns-in_err-check_prints-clause-fault : goal.returns-in_err-check_prints-clause-fault
returns-in_err-check_prints-clause-fault c =
    told (IsCause c.args.raw.now) c.from_residual.result c.in_err-check_prints.field-0.0 c.from_residual.ensures.1 (cause_5 c.args.raw.now _ c.requires.names c.requires.accesses c.requires.writers c.requires.codes c.in_err-check_prints.ensures.fault)

pub returns-in_err-check_operands-clause-fault : goal.returns-in_err-check_operands-clause-fault
returns-in_err-check_operands-clause-fault c =
    told (IsCause c.args.raw.now) c.from_residual-in_err-check_operands.result c.in_err-check_operands.field-0.0 c.from_residual-in_err-check_operands.ensures.1 (cause_6 c.args.raw.now _ c.requires.names c.requires.accesses c.requires.writers c.requires.codes c.in_ok-check_prints.ensures.ok c.in_err-check_operands.ensures.fault)

pub returns-in_err-check_executions-clause-fault : goal.returns-in_err-check_executions-clause-fault
returns-in_err-check_executions-clause-fault c =
    told (IsCause c.args.raw.now) c.from_residual-in_err-check_executions.result c.in_err-check_executions.field-0.0 c.from_residual-in_err-check_executions.ensures.1 (cause_7 c.args.raw.now _ c.requires.names c.requires.accesses c.requires.writers c.requires.codes c.in_ok-check_prints.ensures.ok c.in_ok-check_operands.ensures.ok c.in_err-check_executions.ensures.fault)

pub returns-in_err-check_sends-clause-fault : goal.returns-in_err-check_sends-clause-fault
returns-in_err-check_sends-clause-fault c =
    told (IsCause c.args.raw.now) c.from_residual-in_err-check_sends.result c.in_err-check_sends.field-0.0 c.from_residual-in_err-check_sends.ensures.1 (cause_8 c.args.raw.now _ c.requires.names c.requires.accesses c.requires.writers c.requires.codes c.in_ok-check_prints.ensures.ok c.in_ok-check_operands.ensures.ok c.in_ok-check_executions.ensures.ok c.in_err-check_sends.ensures.fault)

pub returns-in_err-check_receives-clause-fault : goal.returns-in_err-check_receives-clause-fault
returns-in_err-check_receives-clause-fault c =
    told (IsCause c.args.raw.now) c.from_residual-in_err-check_receives.result c.in_err-check_receives.field-0.0 c.from_residual-in_err-check_receives.ensures.1 (cause_9 c.args.raw.now _ c.requires.names c.requires.accesses c.requires.writers c.requires.codes c.in_ok-check_prints.ensures.ok c.in_ok-check_operands.ensures.ok c.in_ok-check_executions.ensures.ok c.in_ok-check_sends.ensures.ok c.in_err-check_receives.ensures.fault)

pub returns-in_err-check_channels-clause-fault : goal.returns-in_err-check_channels-clause-fault
returns-in_err-check_channels-clause-fault c =
    told (IsCause c.args.raw.now) c.from_residual-in_err-check_channels.result c.in_err-check_channels.field-0.0 c.from_residual-in_err-check_channels.ensures.1 (cause_10 c.args.raw.now _ c.requires.names c.requires.accesses c.requires.writers c.requires.codes c.in_ok-check_prints.ensures.ok c.in_ok-check_operands.ensures.ok c.in_ok-check_executions.ensures.ok c.in_ok-check_sends.ensures.ok c.in_ok-check_receives.ensures.ok c.in_err-check_channels.ensures.fault)

pub returns-in_err-check_capacities-clause-fault : goal.returns-in_err-check_capacities-clause-fault
returns-in_err-check_capacities-clause-fault c =
    told (IsCause c.args.raw.now) c.from_residual-in_err-check_capacities.result c.in_err-check_capacities.field-0.0 c.from_residual-in_err-check_capacities.ensures.1 (cause_11 c.args.raw.now _ c.requires.names c.requires.accesses c.requires.writers c.requires.codes c.in_ok-check_prints.ensures.ok c.in_ok-check_operands.ensures.ok c.in_ok-check_executions.ensures.ok c.in_ok-check_sends.ensures.ok c.in_ok-check_receives.ensures.ok c.in_ok-check_channels.ensures.ok c.in_err-check_capacities.ensures.fault)

pub returns-clause-lawful : goal.returns-clause-lawful
returns-clause-lawful c = record {
  names = c.requires.names;
  accesses = c.requires.accesses;
  writers = c.requires.writers;
  codes = c.requires.codes;
  prints = c.in_ok-check_prints.ensures.ok;
  operands = c.in_ok-check_operands.ensures.ok;
  executions = c.in_ok-check_executions.ensures.ok;
  sends = c.in_ok-check_sends.ensures.ok;
  receives = c.in_ok-check_receives.ensures.ok;
  channels = c.in_ok-check_channels.ensures.ok;
  capacities = c.in_ok-check_capacities.ensures.ok;
}
