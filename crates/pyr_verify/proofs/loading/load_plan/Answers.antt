use Rattle.std.proofs.Common.{refl}
use Rattle.pyr_verify.proofs.SummaryLemmas.{is_loaded_plan}
use Rattle.pyr_verify.proofs.loading.load_plan.Goals as goal

pub returns : goal.returns
returns c =
    is_loaded_plan c.args.program.now c.args.processors c.graph.result.now c.in_ok-planned.planned.placement c.in_ok-planned.planned.plan c.in_ok-loaded.loaded.bundle
    (record { time = c.time_of-time.result; loaded = c.in_ok-loaded.loaded }) c.graph.ensures.graph c.in_ok-planned.ensures.planned c.in_ok-loaded.ensures.emission c.in_ok-loaded.ensures.sizes c.in_ok-loaded.ensures.meaning
    c.time_of-time.ensures refl c.in_ok-loaded.ensures.steps c.in_ok-loaded.ensures.text c.in_ok-loaded.ensures.safe
