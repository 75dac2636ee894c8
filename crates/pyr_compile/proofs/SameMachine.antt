-- Two bundles of one plan have one tag machine, whatever the code of their tasks.
use Rattle.std.proofs.Common.{◌≡◌, ℕ, zero, suc, ◌+◌, ◌<◌, ◌≤◌, ◌⊎◌, if◌then◌else◌, List, [], ◌∷◌, length, map, get_or, slice_get, Option, Some, None, inl, inr, refl, sym, ap, ◌∙◌, arith}
use mathlib.Core.Path.{fun_ext}
use Rattle.std.specs.List.{list_all}
use Rattle.std.proofs.lemmas.Bool.{cases_lt}
use Rattle.std.proofs.lemmas.List.{get_or_past}
use Rattle.pyr_num.specs.declared.ids.DatumId.{DatumId}
use Rattle.pyr_net.specs.Net.{Rules}
use Rattle.pyr_net.specs.Run.{end_of}
use Rattle.pyr_net.specs.Occupancy.{occupancy}
use Rattle.pyr_net.specs.declared.action.Action.TheVariants.{Internal, Lacks}
use Rattle.pyr_graph.specs.declared.placement.Placement.{Placement}
use Rattle.pyr_graph.specs.declared.plan.Plan.{Plan}
use Rattle.pyr_graph.specs.System.{task_numbers, task_count}
use Rattle.pyr_graphtext.specs.Program.{ProgramParts}
use Rattle.pyr_bundle.specs.declared.raw_bundle.RawBundle.{RawBundle}
use Rattle.pyr_bundle.specs.declared.raw_task.RawTask.{RawTask}
use Rattle.pyr_bundle.specs.declared.bundle_task.BundleTask.{BundleTask}
use Rattle.pyr_bundle.specs.declared.instr.Instr.{Instr}
use Rattle.pyr_bundle.specs.declared.instr.Instr.TheVariants.{Recv, Exec, Send}
use Rattle.pyr_bundle.specs.Raw.{task_in}
use Rattle.pyr_bundle.specs.Parts.{Parts, raw_task_of, raw_channel_of, raw_instr_of, capacity_of, instr_of, datum_id, task_at, no_task}
use Rattle.pyr_machine.specs.Machine.{LocalState, tags, tag_rules, start, instr_at, action_by, worked_by, advanced, stashed, holds, datum_tag, datum_by, capacity_in, all_stored}
use Rattle.pyr_emit.specs.Emission.{IsEmission, channels_of}
use Rattle.pyr_size.specs.Sizes.{resized}
use Rattle.pyr_size.proofs.Turn.{one_run, follows_alike}
use Rattle.pyr_compile.specs.Compiled.{roomy, HasPlanSizes}
use Rattle.pyr_compile.specs.PlanRun.{plan_schedule}

-- typed values are those of their numbers
back : {X Y : Type 0} (f : X → Y) (g : Y → X) → ((x : X) → g (f x) ≡ x) → (xs : List X) → map g (map f xs) ≡ xs
back f g h [] = refl
back f g h (x ∷ xs) = λ i. h x i ∷ back f g h xs i

from_mapped : {X Y : Type 0} (f : X → Y) (g : Y → X) → ((x : X) → g (f x) ≡ x) → (xs ys : List X) → map f xs ≡ map f ys → xs ≡ ys
from_mapped f g h xs ys e = sym (back f g h xs) ∙ ap (map g) e ∙ back f g h ys

instr_again : (x : Instr) → instr_of (raw_instr_of x) ≡ x
instr_again (Recv from d) = refl
instr_again (Exec t) = refl
instr_again (Send to d) = refl

task_mapped : (tasks : List BundleTask) (t : ℕ) → task_in (map raw_task_of tasks) t ≡ raw_task_of (get_or tasks t no_task)
task_mapped [] zero = refl
task_mapped [] (suc t) = refl
task_mapped (x ∷ tasks) zero = refl
task_mapped (x ∷ tasks) (suc t) = task_mapped tasks t

-- the tag machine looks at the code, the channels, and what tasks read and write alone
module _ (a b : Parts) (code : a.code ≡ b.code) (channels : a.channels ≡ b.channels) (reads : (t : ℕ) → (task_at a t).reads ≡ (task_at b t).reads) (writes : (t : ℕ) → (task_at a t).writes ≡ (task_at b t).writes) where
  same_instr : (p : ℕ) (l : LocalState DatumId) → instr_at a p l ≡ instr_at b p l
  same_instr p l = ap (λ (c : List (List Instr)). slice_get (get_or c p []) l.place) code

  same_action : (it : Option Instr) (l : LocalState DatumId) → action_by (tags a) a it l ≡ action_by (tags b) b it l
  same_action None l = refl
  same_action (Some (Recv from d)) l = refl
  same_action (Some (Exec t)) l = ap (λ (ds : List DatumId). if list_all (λ (d : DatumId). holds datum_tag d.0 l.store) ds then Internal else Lacks) (reads t.0)
  same_action (Some (Send to d)) l = refl

  same_worked : (it : Option Instr) (l : LocalState DatumId) → worked_by (tags a) it l ≡ worked_by (tags b) it l
  same_worked None l = refl
  same_worked (Some (Recv from d)) l = refl
  same_worked (Some (Exec t)) l = ap (λ (ds : List DatumId). record { place = l.place + 1; store = all_stored datum_tag ds l.store; stash = l.stash }) (writes t.0)
  same_worked (Some (Send to d)) l = refl

  pub one_machine : tag_rules a ≡ tag_rules b
  one_machine = λ i. record {
    actors = length (code i);
    capacity = capacity_in (channels i);
    action = (fun_ext (λ p. fun_ext (λ l. ap (λ it. action_by (tags a) a it l) (same_instr p l) ∙ same_action (instr_at b p l) l))) i;
    worked = (fun_ext (λ p. fun_ext (λ l. ap (λ it. worked_by (tags a) it l) (same_instr p l) ∙ same_worked (instr_at b p l) l))) i;
    sent = λ p l. advanced l;
    parcel = (fun_ext (λ p. fun_ext (λ (l : LocalState DatumId). ap datum_by (same_instr p l)))) i;
    taken = λ p l x. stashed l x;
  }

module _ (p : ProgramParts) (placement : Placement) (plan : Plan) (a b : RawBundle) (first : IsEmission p placement plan (roomy a)) (second : IsEmission p placement plan (roomy b))
    (one : HasPlanSizes p placement plan a) (other : HasPlanSizes p placement plan b) where
  code_alike : a.code ≡ b.code
  code_alike = first.code ∙ sym second.code

  typed_code : one.emitted.code ≡ other.emitted.code
  typed_code =
      from_mapped (map raw_instr_of) (map instr_of) (back raw_instr_of instr_of instr_again) one.emitted.code other.emitted.code
      (ap (λ (r : RawBundle). r.code) one.is_roomy ∙ code_alike ∙ sym (ap (λ (r : RawBundle). r.code) other.is_roomy))

  typed_channels : one.emitted.channels ≡ other.emitted.channels
  typed_channels =
      from_mapped raw_channel_of capacity_of (λ c. refl) one.emitted.channels other.emitted.channels
      (ap (λ (r : RawBundle). r.channels) one.is_roomy ∙ ap channels_of code_alike ∙ sym (ap (λ (r : RawBundle). r.channels) other.is_roomy))

  raw_tasks : (f : RawTask → List ℕ) → ((t : ℕ) → t < task_count p.graph → f (task_in a.tasks t) ≡ f (task_in b.tasks t)) → (t : ℕ) → f (raw_task_of (task_at one.emitted t)) ≡ f (raw_task_of (task_at other.emitted t))
  raw_tasks f same t =
      ap f (sym (task_mapped one.emitted.tasks t) ∙ ap (λ (r : RawBundle). task_in r.tasks t) one.is_roomy)
      ∙ at (cases_lt t (task_count p.graph))
      ∙ sym (ap f (sym (task_mapped other.emitted.tasks t) ∙ ap (λ (r : RawBundle). task_in r.tasks t) other.is_roomy))
    where
      nothing : RawTask
      nothing = record { locals = 0; reads = []; writes = []; code = [] }

      at : (t < task_count p.graph) ⊎ (task_count p.graph ≤ t) → f (task_in a.tasks t) ≡ f (task_in b.tasks t)
      at (inl inside) = same t inside
      at (inr past) =
          ap f (get_or_past a.tasks t nothing (let n = first.count in omega (arith, past, n)) ∙ sym (get_or_past b.tasks t nothing (let n = second.count in omega (arith, past, n))))

  same_reads : (t : ℕ) → (task_at one.emitted t).reads ≡ (task_at other.emitted t).reads
  same_reads t =
      from_mapped (λ (d : DatumId). d.0) datum_id (λ d. refl) (task_at one.emitted t).reads (task_at other.emitted t).reads
      (raw_tasks (λ (task : RawTask). task.reads) (λ u inside. (first.tasks u inside).reads ∙ sym (second.tasks u inside).reads) t)

  same_writes : (t : ℕ) → (task_at one.emitted t).writes ≡ (task_at other.emitted t).writes
  same_writes t =
      from_mapped (λ (d : DatumId). d.0) datum_id (λ d. refl) (task_at one.emitted t).writes (task_at other.emitted t).writes
      (raw_tasks (λ (task : RawTask). task.writes) (λ u inside. (first.tasks u inside).writes ∙ sym (second.tasks u inside).writes) t)

  same_rules : tag_rules one.emitted ≡ tag_rules other.emitted
  same_rules = one_machine one.emitted other.emitted typed_code typed_channels same_reads same_writes

  abbrev schedule : List ℕ
  schedule = plan_schedule p.graph placement (task_numbers plan.order)

  same_run : one.complete.run ≡ other.complete.run
  same_run =
      one_run other.emitted schedule start one.complete.run other.complete.run
      (follows_alike one.emitted other.emitted (λ w run. ap (λ (net : Rules (LocalState DatumId) DatumId). end_of net w run) same_rules) schedule start one.complete.run one.complete.follows)
      other.complete.follows

  -- so their channels have one capacity each
  pub channels_alike : a.channels ≡ b.channels
  channels_alike =
      one.capacities
      ∙ (λ i. map raw_channel_of (map (resized (occupancy (same_rules i) start (same_run i))) (typed_channels i)))
      ∙ sym other.capacities
