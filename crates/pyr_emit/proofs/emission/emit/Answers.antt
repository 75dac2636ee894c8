use Rattle.std.proofs.Common.{sym, subst}
use Rattle.pyr_graph.specs.WholeGraph.{IsGraph}
use Rattle.pyr_bundle.specs.declared.raw_bundle.RawBundle.{RawBundle}
use Rattle.pyr_bundle.specs.Parts.{Parts, raw_of}
use Rattle.pyr_bundle.proofs.PartsLemmas.{raw_of-parts_of}
use Rattle.pyr_rcp.proofs.PlanLemmas.{IsTopological-from_ordered}
use Rattle.pyr_emit.specs.Emission.{IsEmission}
use Rattle.pyr_emit.proofs.Whole.{lawful, limits, only_memory}
use Rattle.pyr_emit.proofs.MeaningLemmas.{means_the_same}
use Rattle.pyr_emit.proofs.emission.emit.Goals as goal

pub build-requires : goal.build-requires
build-requires c =
    limits c.args.program.now c.args.placement.now c.args.plan.now c.in_ok-raw.raw c.in_ok-raw.ensures.emission c.graph.ensures.program
    (subst IsGraph c.graph.ensures.graph c.well_formed-2.ensures) c.requires.placed
    (IsTopological-from_ordered c.args.program.now.graph c.args.placement.now c.args.plan.now c.requires.ordered) c.requires.some c.requires.few c.in_ok-raw.ensures.checked

pub want_of_memory-requires : goal.want_of_memory-requires
want_of_memory-requires c =
    only_memory c.in_ok-raw.raw
    (lawful c.args.program.now c.args.placement.now c.args.plan.now c.in_ok-raw.raw c.in_ok-raw.ensures.emission c.graph.ensures.program
    (subst IsGraph c.graph.ensures.graph c.well_formed-2.ensures) c.requires.placed
    (IsTopological-from_ordered c.args.program.now.graph c.args.placement.now c.args.plan.now c.requires.ordered) c.requires.some c.requires.few c.in_ok-raw.ensures.checked)
    c.in-Err.fault c.in-Err.ensures.fault

-- the bundle that was built is that of the plan
emitted : (c : goal.In-Ok) → IsEmission c.args.program.now c.args.placement.now c.args.plan.now (raw_of c.in-Ok.bundle)
emitted c =
    subst (λ (b : Parts). IsEmission c.args.program.now c.args.placement.now c.args.plan.now (raw_of b)) (sym c.in-Ok.ensures.parts)
    (subst (λ (raw : RawBundle). IsEmission c.args.program.now c.args.placement.now c.args.plan.now raw) (sym (raw_of-parts_of c.in_ok-raw.raw)) c.in_ok-raw.ensures.emission)

pub returns-in-Ok-clause-emission : goal.returns-in-Ok-clause-emission
returns-in-Ok-clause-emission c = emitted c

pub returns-in-Ok-clause-meaning : goal.returns-in-Ok-clause-meaning
returns-in-Ok-clause-meaning c =
    means_the_same c.args.program.now c.args.placement.now c.args.plan.now c.in-Ok.bundle c.graph.ensures.program (emitted c)
