-- What is found of a generated program is its summary.
use Rattle.std.proofs.Common.{◌≡◌, ℕ, List, [], unwrap_or, Option, sym, ap, subst, ◌∙◌}
use Rattle.pyr_seq.specs.Sequential.{outputs_of, value_of}
use Rattle.pyr_seq.proofs.SequentialLemmas.{map_alike}
use Rattle.pyr_graph.specs.declared.placement.Placement.{Placement}
use Rattle.pyr_graph.specs.declared.plan.Plan.{Plan}
use Rattle.pyr_graph.specs.System.{System, datum_numbers}
use Rattle.pyr_graphtext.specs.Program.{ProgramParts, tasks_of}
use Rattle.pyr_gantt.specs.Gantt.{time_of}
use Rattle.pyr_make.specs.Layered.{layered_program}
use Rattle.pyr_bundle.specs.Parts.{Parts, raw_of}
use Rattle.pyr_bundle.specs.Values.{IsOrderOf, printed, tasks_of as bundle_tasks}
use Rattle.pyr_emit.specs.Emission.{IsEmission}
use Rattle.pyr_emit.specs.Meaning.{MeansTheSame}
use Rattle.pyr_machine.specs.Counts.{step_count}
use Rattle.pyr_compile.specs.Compiled.{IsPlanned, roomy, HasPlanSizes}
use Rattle.pyr_loader.specs.Safe.{IsSafe}
use Rattle.pyr_verify.specs.declared.loading.LoadedPlan.{LoadedPlan}
use Rattle.pyr_verify.specs.declared.summary.Summary.{Summary}
use Rattle.pyr_verify.specs.Summary.{message_count, wrapping_sum, IsSummary, HasLoadedText, IsVerified}
use Rattle.pyr_verify.specs.LoadedPlan.{IsLoadedPlan}

-- what a bundle prints is what its program prints
pub printed_is : (p : ProgramParts) (b : Parts) (order : List ℕ) → MeansTheSame p b → (raw_of b).prints ≡ datum_numbers p.graph.prints
    → printed b 0 order ≡ outputs_of (tasks_of p 0) order (datum_numbers p.graph.prints)
printed_is p b order means prints =
    map_alike (value_of (bundle_tasks b 0) order) (value_of (tasks_of p 0) order) (λ d. ap (λ (o : Option (List ℕ)). unwrap_or o []) (means.same 0 order d)) (raw_of b).prints
    ∙ ap (outputs_of (tasks_of p 0) order) prints

-- the loaded bundle is that of the plan
pub is_loaded_plan : (p : ProgramParts) (processors : ℕ) (g : System) (placement : Placement) (plan : Plan) (b : Parts) (found : LoadedPlan) → g ≡ p.graph → IsPlanned g processors placement plan
    → IsEmission p placement plan (roomy (raw_of b)) → HasPlanSizes p placement plan (raw_of b) → MeansTheSame p b → found.time ≡ time_of plan → found.loaded.bundle ≡ b → found.loaded.steps ≡ step_count b → HasLoadedText found.loaded
    → IsSafe found.loaded.bundle found.loaded.steps → IsLoadedPlan p processors found
is_loaded_plan p processors g placement plan b found graph planned_of emission sizes means time same steps text safe = record {
  compiled = record {
    clustering = planned.clustering;
    run = planned.run;
    placement = placement;
    merged = planned.merged;
    plan = plan;
    ordered = planned.ordered;
    emission = subst (λ (c : Parts). IsEmission p placement plan (roomy (raw_of c))) (sym same) emission;
    sizes = subst (λ (c : Parts). HasPlanSizes p placement plan (raw_of c)) (sym same) sizes;
  };
  time = time;
  text = text;
  steps = steps ∙ ap step_count (sym same);
  safe = safe;
  means = subst (MeansTheSame p) (sym same) means;
}
  where
    planned : IsPlanned p.graph processors placement plan
    planned = subst (λ (s : System). IsPlanned s processors placement plan) graph planned_of

-- the loaded bundle of a program that is the generated one
pub of_made : (tasks processors : ℕ) (p : ProgramParts) (found : LoadedPlan) → p ≡ layered_program tasks → IsLoadedPlan p processors found → IsLoadedPlan (layered_program tasks) processors found
of_made tasks processors p found program loaded = subst (λ (q : ProgramParts). IsLoadedPlan q processors found) program loaded

module _ (tasks processors : ℕ) (found : LoadedPlan) (loaded : IsLoadedPlan (layered_program tasks) processors found) where
  pub is_summary : (s : Summary) → s.tasks ≡ tasks → s.processors ≡ processors → s.messages ≡ message_count found.loaded.bundle → s.steps ≡ found.loaded.steps → s.time ≡ found.time
      → ((order : List ℕ) → IsOrderOf found.loaded.bundle 0 order → s.sum ≡ wrapping_sum (printed found.loaded.bundle 0 order)) → IsSummary tasks processors s
  is_summary s of_tasks on_processors messages steps time sum =
      let (order, top) = loaded.safe.order 0 in
      record {
        of_tasks = of_tasks;
        on_processors = on_processors;
        bundle = found.loaded.bundle;
        compiled = loaded.compiled;
        messages = messages;
        steps = steps ∙ loaded.steps;
        time = time ∙ loaded.time;
        order = order;
        ordered = (loaded.means.orders 0 order).1 top;
        sum = sum order top ∙ ap wrapping_sum (printed_is (layered_program tasks) found.loaded.bundle order loaded.means loaded.compiled.emission.prints);
      }

  pub is_verified : (s : Summary) → s.steps ≡ found.loaded.steps → IsVerified tasks processors s
  is_verified s steps = record {
    loaded = found.loaded;
    text = loaded.text;
    compiled = loaded.compiled;
    steps = steps;
    safe = loaded.safe;
    means = loaded.means;
  }
