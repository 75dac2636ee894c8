use Rattle.pyr_compile.proofs.PlanLemmas.{plans_complete, sized_plans_complete}
use Rattle.pyr_compile.proofs.laws.plans_complete.Goals as goal

pub returns-clause-roomy : goal.returns-clause-roomy
returns-clause-roomy c = plans_complete

pub returns-clause-sized : goal.returns-clause-sized
returns-clause-sized c = sized_plans_complete
