use Rattle.pyr_top.specs.ClusterReport.{step_line}
use Rattle.pyr_top.proofs.OutputLemmas.{written_more}
use Rattle.pyr_top.proofs.cluster_report.put_steps.Goals as goal

pub loop-step-preserved : goal.loop-step-preserved
loop-step-preserved c =
    written_more (step_line c.args.program.now) c.args.text.now.items c.loop-step.text.items c.put_step.new.text.items c.args.steps.now c.loop-step.step-index _ c.loop-step-test.true c.loop-step.invariant c.in_ok-put_step.ensures
