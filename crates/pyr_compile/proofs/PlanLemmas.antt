-- The run of a plan is complete.
use Rattle.std.proofs.Common.{◌≡◌, ℕ, ◌+◌, ◌<◌, ◌≤◌, ◌==◌, ◌||◌, Bool, true, false, cond, List, [], ◌∷◌, length, map, inl, inr, refl, sym, ap, ◌∙◌, subst, arith}
use Rattle.std.specs.Prelude.{All, nat_eq, slice_index}
use Rattle.std.specs.List.{list_any}
use Rattle.std.proofs.lemmas.Bool.{cases_lt, cases_eq, eq-eqb, ne_eqb}
use Rattle.std.proofs.lemmas.List.{get_or_past, get_or-map, length-map}
use Rattle.pyr_num.specs.declared.ids.DatumId.{DatumId}
use Rattle.pyr_num.specs.declared.ids.TaskId.{TaskId}
use Rattle.pyr_seq.specs.Walk.{IsTopological}
use Rattle.pyr_graph.specs.declared.placement.Placement.{Placement}
use Rattle.pyr_graph.specs.declared.plan.Plan.{Plan}
use Rattle.pyr_graph.specs.System.{System, task_count, task_numbers, IsEdge}
use Rattle.pyr_graph.specs.WholeGraph.{IsGraph}
use Rattle.pyr_graph.specs.Clusters.{cluster_numbers}
use Rattle.pyr_dsc.specs.Run.{IsRun}
use Rattle.pyr_merge.specs.Merge.{IsMerged}
use Rattle.pyr_graphtext.specs.Program.{ProgramParts, IsProgram}
use Rattle.pyr_graph.specs.Placements.{processor_of}
use Rattle.pyr_rcp.specs.Order.{IsPlaced, IsOrdered}
use Rattle.pyr_rcp.proofs.PlanLemmas.{IsTopological-from_ordered}
use Rattle.pyr_bundle.specs.declared.capacity.Capacity.{Capacity}
use Rattle.pyr_bundle.specs.Parts.{Parts, IsBundle, raw_of, raw_task_of, processor_count, task_count as bundle_tasks, code_at, task_at, instr_of}
use Rattle.pyr_bundle.specs.WellFormed.{IsWellFormed}
use Rattle.pyr_machine.specs.Machine.{tags, start}
use Rattle.pyr_machine.specs.Schedule.{tally, KeepsTags, IsSchedule, UsesAll, at_start}
use Rattle.pyr_bundle.proofs.WellFormedLemmas.{well_formed}
use Rattle.pyr_machine.specs.Counts.{step_count}
use Rattle.pyr_machine.specs.Good.{IsGood}
use Rattle.pyr_machine.proofs.Schedules.{completes}
use Rattle.pyr_machine.proofs.Bounded.{run_le, start_left}
use Rattle.pyr_machine.proofs.Exact.{complete_steps}
use Rattle.pyr_emit.specs.Emission.{IsEmission, reads_it, writes_it, code_on}
use Rattle.pyr_emit.proofs.CountLemmas.{home_below, task_below}
use Rattle.pyr_emit.proofs.EmittedLemmas.{processors_are, code_is}
use Rattle.pyr_emit.proofs.MeaningLemmas.{same_reads, same_writes}
use Rattle.pyr_size.specs.Blocks.{order_schedule}
use Rattle.pyr_size.specs.Sizes.{sized, Completes, AreSizes}
use Rattle.pyr_size.proofs.Sized.{sized_completes}
use Rattle.pyr_compile.specs.Compiled.{IsPlanned, roomy, HasPlanSizes, RunsByItsPlan}
use Rattle.pyr_compile.specs.PlanRun.{plan_schedule, PlanCompletes, PlansComplete, SizedPlansComplete}
use Rattle.pyr_compile.proofs.Events.{Event, project, scheduled, all_used}
use Rattle.pyr_compile.proofs.BlockSizes.{schedule_is}
use Rattle.pyr_compile.proofs.Blocks.{events_below, project_all, no_code, turns_are}
use Rattle.pyr_compile.proofs.Ready.{all_ready}
use Rattle.pyr_compile.proofs.Matched.{one_sender, matched}
use Rattle.pyr_compile.proofs.Rooms.{holds_all}

-- typed data among these, and their numbers
any_number : (d : ℕ) (ds : List DatumId) → list_any (λ (e : DatumId). e.0 == d) ds ≡ list_any (nat_eq d) (map (λ (e : DatumId). e.0) ds)
any_number d [] = refl
any_number d (e ∷ ds) = ap (λ c. c || list_any (λ (f : DatumId). f.0 == d) ds) (turned e.0 d) ∙ ap (λ c. nat_eq d e.0 || c) (any_number d ds)
  where
    turned : (m n : ℕ) → (m == n) ≡ nat_eq n m
    turned m n = elim (cases_eq m n) [
      | inl same ↦ eq-eqb m n same ∙ sym (eq-eqb n m (sym same))
      | inr apart ↦ ne_eqb m n apart ∙ sym (ne_eqb n m (λ e. apart (sym e)))
    ]

some_number : (d : ℕ) (ds : List DatumId) → 0 < tally (λ (e : DatumId). e.0 == d) ds → list_any (λ (e : DatumId). e.0 == d) ds ≡ true
some_number d [] some = absurd (omega (arith, some))
some_number d (e ∷ ds) some = at (e.0 == d) some (some_number d ds)
  where
    at : (c : Bool) → 0 < cond c 1 0 + tally (λ (f : DatumId). f.0 == d) ds → (0 < tally (λ (f : DatumId). f.0 == d) ds → list_any (λ (f : DatumId). f.0 == d) ds ≡ true) → (c || list_any (λ (f : DatumId). f.0 == d) ds) ≡ true
    at true h ih = refl
    at false h ih = ih (omega (arith, h))

number_some : (d : ℕ) (ds : List DatumId) → list_any (λ (e : DatumId). e.0 == d) ds ≡ true → 0 < tally (λ (e : DatumId). e.0 == d) ds
number_some d [] e = absurd (let no' : false ≡ true = e in cc)
number_some d (f ∷ ds) e = at (f.0 == d) e (number_some d ds)
  where
    at : (c : Bool) → (c || list_any (λ (g : DatumId). g.0 == d) ds) ≡ true → (list_any (λ (g : DatumId). g.0 == d) ds ≡ true → 0 < tally (λ (g : DatumId). g.0 == d) ds) → 0 < cond c 1 0 + tally (λ (g : DatumId). g.0 == d) ds
    at true h ih = omega arith
    at false h ih = let i = ih h in omega (arith, i)

-- in the tag machine a parcel is its datum
pub keeps_tags : (b : Parts) → KeepsTags (tags b) b
keeps_tags b = record {
  pick = λ d xs held. refl;
  made = λ t d xs writes. number_some d (task_at b t).writes writes;
}

module _ (p : ProgramParts) (placement : Placement) (plan : Plan) (b : Parts) (program : IsProgram p) (graph : IsGraph p.graph) (placed : IsPlaced p.graph placement)
    (ordered : IsOrdered p.graph placement plan) (is : IsEmission p placement plan (raw_of b)) where
  abbrev s : System
  s = p.graph

  abbrev order : List ℕ
  order = task_numbers plan.order

  top : IsTopological (task_count s) (IsEdge s) order
  top = IsTopological-from_ordered s placement plan ordered

  count : processor_count b ≡ placement.processors
  count = processors_are p placement plan b is

  codes_are : (q : ℕ) → code_at b q ≡ map instr_of (code_on s placement order q)
  codes_are q = elim (cases_lt q placement.processors) [
    | inl inside ↦ code_is p placement plan b is q inside
    | inr past ↦ (
        get_or_past b.code q [] (omega (arith, count, past))
        ∙ sym (ap (map instr_of) (no_code s placement order q (λ i i_in same. far i i_in q past same))))
  ]
    where
      far : (i : ℕ) → i < length order → (k : ℕ) → placement.processors ≤ k → processor_of placement (slice_index order i) ≡ k → ⊥
      far i i_in k past same =
          let l = home_below s placement order graph placed top (slice_index order i) (task_below s placement order graph placed top i i_in) in omega (arith, l, past, same)

  reads_same : (t d : ℕ) → 0 < tally (λ (e : DatumId). e.0 == d) (task_at b t).reads → reads_it s t d ≡ true
  reads_same t d some =
      sym (any_number d (task_at b t).reads ∙ ap (λ (xs : List ℕ). list_any (nat_eq d) xs) (same_reads p placement plan b program is t)) ∙ some_number d (task_at b t).reads some

  writes_same : (t d : ℕ) → list_any (λ (e : DatumId). e.0 == d) (task_at b t).writes ≡ writes_it s t d
  writes_same t d =
      any_number d (task_at b t).writes ∙ ap (λ (xs : List ℕ). list_any (nat_eq d) xs) (same_writes p placement plan b program is t)

  abbrev events : List Event
  events = events_below s placement order (length order)

  code_events : (q : ℕ) → code_at b q ≡ project q events
  code_events q = codes_are q ∙ sym (project_all s placement order q)

  is_schedule : IsSchedule b at_start (plan_schedule s placement order)
  is_schedule =
      subst (IsSchedule b at_start) (turns_are s placement order)
      (scheduled b [] events at_start code_events (λ q. refl) (all_ready s placement order graph placed top b count reads_same writes_same))

  uses_all : UsesAll b (plan_schedule s placement order)
  uses_all =
      subst (UsesAll b) (turns_are s placement order)
      (λ q. all_used b [] events at_start (λ r. refl) q ∙ ap length (sym (code_events q)))

  pub plan_completes : PlanCompletes p placement plan b
  plan_completes =
      completes (tags b) b (plan_schedule s placement order) (keeps_tags b)
      (one_sender s placement order graph placed top b count codes_are)
      (holds_all s placement order graph placed top b count codes_are is.code is.channels)
      (matched s placement order graph placed top b count codes_are)
      is_schedule uses_all

  -- it is the run of the blocks of the bundle
  pub order_completes : IsWellFormed b → Completes b (order_schedule b order)
  order_completes well = subst (Completes b) (sym (schedule_is s placement order top b well codes_are)) plan_completes

  pub order_known : All (λ t. t.0 < bundle_tasks b) plan.order
  order_known k d l =
      let here = get_or-map (λ (t : TaskId). t.0) plan.order k d 0 l in
      let low = top.tasks k 0 (let n = length-map plan.order (λ (t : TaskId). t.0) in omega (arith, n, l)) in
      let count = is.count in
      let typed = length-map b.tasks raw_task_of in
      omega (arith, here, low, count, typed)

  -- the sizes along the one run are those along the other
  pub plan_sizes : (caps : List Capacity) → IsWellFormed b → AreSizes b order caps → (complete : PlanCompletes p placement plan b) × (caps ≡ (sized b complete.run).channels)
  plan_sizes caps well sizes =
      subst (λ (schedule : List ℕ). (complete : Completes b schedule) × (caps ≡ (sized b complete.run).channels)) (schedule_is s placement order top b well codes_are) (sizes.complete, sizes.are)

pub plans_complete : PlansComplete
plans_complete p placement plan b program graph placed ordered is = plan_completes p placement plan b program graph placed ordered is

pub sized_plans_complete : SizedPlansComplete
sized_plans_complete p placement plan b complete = sized_completes b (plan_schedule p.graph placement (task_numbers plan.order)) complete

-- what is told of a compiled bundle, where its plan was made first
pub runs_by_plan : (p : ProgramParts) (processors : ℕ) (g : System) (placement : Placement) (plan : Plan) (b : Parts) → g ≡ p.graph → IsPlanned g processors placement plan
    → IsEmission p placement plan (roomy (raw_of b)) → HasPlanSizes p placement plan (raw_of b) → PlanCompletes p placement plan b → RunsByItsPlan p processors b
runs_by_plan p processors g placement plan b same planned emission sizes complete =
    record {
      compiled = record {
        clustering = planned.clustering;
        run = subst (λ (s : System). IsRun s planned.clustering) same planned.run;
        placement = placement;
        merged = subst (λ (s : System). IsMerged s (cluster_numbers planned.clustering.clusters) processors placement) same planned.merged;
        plan = plan;
        ordered = subst (λ (s : System). IsOrdered s placement plan) same planned.ordered;
        emission = emission;
        sizes = sizes;
      };
      complete = complete;
    }

-- a bundle whose plan has a complete run is good
pub good_by_plan : (p : ProgramParts) (placement : Placement) (plan : Plan) (b : Parts) → IsBundle b → PlanCompletes p placement plan b → IsGood b (step_count b)
good_by_plan p placement plan b bundle complete =
    let most = run_le (tags b) b start complete.run (well_formed b bundle) complete.is_run in
    let least = complete_steps (tags b) b complete.run complete.is_run complete.done in
    record { run = complete.run; is_run = complete.is_run; count = omega (arith, most, least, start_left DatumId b); done = complete.done }
