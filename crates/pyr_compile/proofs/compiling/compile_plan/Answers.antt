use Rattle.std.proofs.Common.{◌≡◌, ◌<◌, List, map, sym, ap, subst, ◌∙◌}
use Rattle.std.specs.Prelude.{All}
use Rattle.pyr_num.specs.declared.ids.TaskId.{TaskId}
use Rattle.pyr_graph.specs.WholeGraph.{IsGraph}
use Rattle.pyr_bundle.specs.Parts.{task_count}
use Rattle.pyr_bundle.specs.WellFormed.{IsFineCapacity}
use Rattle.pyr_size.specs.Blocks.{order_schedule}
use Rattle.pyr_size.specs.Sizes.{sized, Completes, AreSizes}
use Rattle.pyr_compile.specs.Compiled.{with_channels}
use Rattle.pyr_compile.specs.PlanRun.{PlanCompletes}
use Rattle.pyr_compile.proofs.PlanLemmas.{order_known, order_completes, plan_sizes, good_by_plan}
use Rattle.pyr_compile.proofs.Resized.{sizes_of, run_of, meaning_of}
use Rattle.pyr_compile.proofs.compiling.compile_plan.Goals as goal

pub sizes-requires-clause-known : goal.sizes-requires-clause-known
sizes-requires-clause-known c =
    subst (All (λ t. t.0 < task_count c.in_ok-bundle.bundle)) (sym c.as_slice.ensures)
    (order_known c.args.program.now c.args.planned.now.placement c.args.planned.now.plan c.in_ok-bundle.bundle
    c.graph.ensures.program (subst IsGraph c.graph.ensures.graph c.well_formed-2.ensures) c.requires.placed c.requires.ordered c.in_ok-bundle.ensures.emission)

pub sizes-requires-clause-complete : goal.sizes-requires-clause-complete
sizes-requires-clause-complete c =
    subst (λ (order : List TaskId). Completes c.in_ok-bundle.bundle (order_schedule c.in_ok-bundle.bundle (map (λ (t : TaskId). t.0) order))) (sym c.as_slice.ensures)
    (order_completes c.args.program.now c.args.planned.now.placement c.args.planned.now.plan c.in_ok-bundle.bundle
    c.graph.ensures.program (subst IsGraph c.graph.ensures.graph c.well_formed-2.ensures) c.requires.placed c.requires.ordered c.in_ok-bundle.ensures.emission c.well_formed-3.ensures)

pub set_capacities-requires-clause-fine : goal.set_capacities-requires-clause-fine
set_capacities-requires-clause-fine c = subst (All (IsFineCapacity c.in_ok-bundle.bundle)) (sym c.deref.ensures.value) c.in_ok-capacities.ensures.fine

-- the bundle has these capacities in the end
new_is : (c : goal.After-drop-capacities) → c.set_capacities.new.bundle ≡ with_channels c.in_ok-bundle.bundle c.in_ok-capacities.capacities.items
new_is c = c.set_capacities.ensures ∙ ap (with_channels c.in_ok-bundle.bundle) c.deref.ensures.value

-- they are the occupancies along the run of the plan
sizes_are : (c : goal.After-drop-capacities)
    → (complete : PlanCompletes c.args.program.now c.args.planned.now.placement c.args.planned.now.plan c.in_ok-bundle.bundle)
    × (c.in_ok-capacities.capacities.items ≡ (sized c.in_ok-bundle.bundle complete.run).channels)
sizes_are c =
    plan_sizes c.args.program.now c.args.planned.now.placement c.args.planned.now.plan c.in_ok-bundle.bundle
    c.graph.ensures.program (subst IsGraph c.graph.ensures.graph c.well_formed-2.ensures) c.requires.placed c.requires.ordered c.in_ok-bundle.ensures.emission
    c.in_ok-capacities.capacities.items c.well_formed-3.ensures
    (subst (λ (order : List TaskId). AreSizes c.in_ok-bundle.bundle (map (λ (t : TaskId). t.0) order) c.in_ok-capacities.capacities.items) c.as_slice.ensures c.in_ok-capacities.ensures.sizes)

pub returns-clause-sizes : goal.returns-clause-sizes
returns-clause-sizes c =
    sizes_of c.args.program.now c.args.planned.now.placement c.args.planned.now.plan c.in_ok-bundle.bundle c.in_ok-capacities.capacities.items c.set_capacities.new.bundle
    (new_is c) c.in_ok-bundle.ensures.emission (sizes_are c)

pub returns-clause-run : goal.returns-clause-run
returns-clause-run c =
    run_of c.args.program.now c.args.planned.now.placement c.args.planned.now.plan c.in_ok-bundle.bundle c.in_ok-capacities.capacities.items c.set_capacities.new.bundle
    (new_is c) c.in_ok-bundle.ensures.emission (sizes_are c)

pub returns-clause-good : goal.returns-clause-good
returns-clause-good c =
    good_by_plan c.args.program.now c.args.planned.now.placement c.args.planned.now.plan c.set_capacities.new.bundle c.is_bundle.ensures (returns-clause-run c)

pub returns-clause-meaning : goal.returns-clause-meaning
returns-clause-meaning c =
    meaning_of c.args.program.now c.args.planned.now.placement c.args.planned.now.plan c.in_ok-bundle.bundle c.in_ok-capacities.capacities.items c.set_capacities.new.bundle
    (new_is c) c.in_ok-bundle.ensures.emission (sizes_are c) c.in_ok-bundle.ensures.meaning
