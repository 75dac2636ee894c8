use Rattle.pyr_compile.proofs.PlanLemmas.{runs_by_plan}
use Rattle.pyr_compile.proofs.compiling.compile.Goals as goal

pub returns-clause-run : goal.returns-clause-run
returns-clause-run c =
    runs_by_plan c.args.program.now c.args.processors c.graph.result.now c.in_ok-planned.planned.placement c.in_ok-planned.planned.plan c.in_ok-bundle.bundle
    c.graph.ensures.graph c.in_ok-planned.ensures.planned c.in_ok-bundle.ensures.emission c.in_ok-bundle.ensures.sizes c.in_ok-bundle.ensures.run
