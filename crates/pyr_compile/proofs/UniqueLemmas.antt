-- A program has one plan for a number of processors, and its bundle one text.
use Rattle.std.proofs.Common.{◌≡◌, ◌<◌, ◌≤◌, ℕ, suc, List, [], ◌∷◌, ◌++◌, length, get_or, sym, ap, subst, ◌∙◌, refl, arith}
use Rattle.std.specs.Prelude.{codes}
use Rattle.std.specs.List.{flat_map}
use Rattle.pyr_graph.proofs.NumberLemmas.{each-number}
use Rattle.pyr_code.specs.Tree.{Code}
use Rattle.pyr_graph.specs.declared.clustering.Clustering.{Clustering}
use Rattle.pyr_graph.specs.declared.placement.Placement.{Placement}
use Rattle.pyr_graph.specs.declared.plan.Plan.{Plan}
use Rattle.pyr_graph.specs.System.{System, task_count}
use Rattle.pyr_graph.specs.Clusters.{cluster_numbers, times_in_clusters}
use Rattle.pyr_graphtext.specs.Program.{ProgramParts}
use Rattle.pyr_dsc.specs.State.{is_examined}
use Rattle.pyr_dsc.specs.Run.{IsRun, state}
use Rattle.pyr_dsc.proofs.UniqueLemmas.{one-run}
use Rattle.pyr_merge.specs.Merge.{IsMerged}
use Rattle.pyr_merge.proofs.PartLemmas.{some-times}
use Rattle.pyr_merge.proofs.UniqueLemmas.{one-placement-where}
use Rattle.pyr_rcp.specs.Order.{IsOrdered}
use Rattle.pyr_rcp.proofs.UniqueLemmas.{one-plan}
use Rattle.pyr_bundle.specs.declared.raw_bundle.RawBundle.{RawBundle}
use Rattle.pyr_bundle.specs.declared.raw_datum.RawDatum.{RawDatum}
use Rattle.pyr_bundle.specs.declared.raw_task.RawTask.{RawTask}
use Rattle.pyr_bundle.specs.declared.raw_channel.RawChannel.{RawChannel}
use Rattle.pyr_bundle.specs.declared.raw_instr.RawInstr.{RawInstr}
use Rattle.pyr_bundle.specs.Raw.{task_in, tree_of}
use Rattle.pyr_bundletext.specs.Text.{line, datum_text, task_text, code_text, print_text, channel_text, processors_text, text_of}
use Rattle.pyr_emit.specs.Emission.{IsEmission, IsTaskOf}
use Rattle.pyr_compile.specs.Compiled.{IsCompiled, roomy, HasPlanSizes}
use Rattle.pyr_compile.proofs.SameMachine.{channels_alike}

-- after the run of the clustering each task stands in the clusters
clustered : (s : System) (c : Clustering) → IsRun s c → (t : ℕ) → t < task_count s → 1 ≤ times_in_clusters (cluster_numbers c.clusters) t
clustered s c run t inside =
    some-times (cluster_numbers c.clusters) t
    (each-number (is_examined (state s [] (cluster_numbers c.clusters) [])) (task_count s) t run.all inside)

-- a graph has one placement and one plan for a number of processors
pub record OnePlan (placement other : Placement) (plan another : Plan) : Type 0 where
  pub placed : placement ≡ other
  pub planned : plan ≡ another

pub one_plan_for : (s : System) (processors : ℕ) (c d : Clustering) (placement other : Placement) (plan another : Plan) → IsRun s c → IsRun s d
    → IsMerged s (cluster_numbers c.clusters) processors placement → IsMerged s (cluster_numbers d.clusters) processors other → IsOrdered s placement plan → IsOrdered s other another
    → OnePlan placement other plan another
one_plan_for s processors c d placement other plan another run run' merged merged' ordered ordered' =
    let clusters : cluster_numbers c.clusters ≡ cluster_numbers d.clusters = (one-run s c d run run').2 in
    let again : IsMerged s (cluster_numbers d.clusters) processors placement = subst (λ (l : List (List ℕ)). IsMerged s l processors placement) clusters merged in
    let placed : placement ≡ other = one-placement-where s (cluster_numbers d.clusters) processors placement other (clustered s d run') again merged' in
    record {
      placed = placed;
      planned = one-plan s other plan another (subst (λ (m : Placement). IsOrdered s m plan) placed ordered) ordered';
    }

-- lists whose elements make the same pieces, place by place
pieces_alike : {X Y : Type 0} (f : X → List Y) (none : X) (xs ys : List X) → length xs ≡ length ys → ((k : ℕ) → k < length xs → f (get_or xs k none) ≡ f (get_or ys k none)) → flat_map f xs ≡ flat_map f ys
pieces_alike f none [] [] full same = refl
pieces_alike f none [] (y ∷ ys) full same = absurd (let no' : 0 ≡ suc (length ys) = full in omega (arith, no'))
pieces_alike f none (x ∷ xs) [] full same = absurd (let no' : suc (length xs) ≡ 0 = full in omega (arith, no'))
pieces_alike f none (x ∷ xs) (y ∷ ys) full same =
    ap (λ l. l ++ flat_map f xs) (same 0 (omega arith))
    ∙ ap (λ l. f y ++ l) (pieces_alike f none xs ys (omega (arith, full)) (λ k inside. same (suc k) (omega (arith, inside))))

-- the text of a task is that of its numbers and of its tree
abbrev text_with : ℕ → List ℕ → List ℕ → Code → List ℕ
text_with locals reads writes tree =
    line (codes "task") (locals ∷ []) ++ line (codes "reads") reads ++ line (codes "writes") writes ++ code_text tree ++ line (codes "end") []

task_alike : (a b : RawTask) → a.locals ≡ b.locals → a.reads ≡ b.reads → a.writes ≡ b.writes → tree_of a ≡ tree_of b → task_text a ≡ task_text b
task_alike a b locals reads writes tree =
    ap (λ n. text_with n a.reads a.writes (tree_of a)) locals
    ∙ ap (λ xs. text_with b.locals xs a.writes (tree_of a)) reads
    ∙ ap (λ xs. text_with b.locals b.reads xs (tree_of a)) writes
    ∙ ap (text_with b.locals b.reads b.writes) tree

abbrev no_task : RawTask
no_task = record { locals = 0; reads = []; writes = []; code = [] }

-- the text of parts is that of these lists
abbrev text_by : List RawDatum → List ℕ → List ℕ → List RawChannel → List (List RawInstr) → List ℕ
text_by datums tasks prints channels code =
    line (codes "pyrros") (1 ∷ []) ++ line (codes "processors") (length code ∷ []) ++ flat_map datum_text datums ++ tasks
    ++ flat_map print_text prints ++ flat_map channel_text channels ++ processors_text 0 code ++ line (codes "stop") []

text_is : (raw : RawBundle) → text_of raw ≡ text_by raw.datums (flat_map task_text raw.tasks) raw.prints raw.channels raw.code
unfolding text_of
text_is raw = refl

-- two bundles of one plan have one text
module _ (p : ProgramParts) (placement : Placement) (plan : Plan) (a b : RawBundle) (first : IsEmission p placement plan (roomy a)) (second : IsEmission p placement plan (roomy b))
    (one : HasPlanSizes p placement plan a) (other : HasPlanSizes p placement plan b) where
  tasks_alike : flat_map task_text a.tasks ≡ flat_map task_text b.tasks
  tasks_alike = pieces_alike task_text no_task a.tasks b.tasks (first.count ∙ sym second.count) each
    where
      each : (k : ℕ) → k < length a.tasks → task_text (task_in a.tasks k) ≡ task_text (task_in b.tasks k)
      each k inside =
          let one : IsTaskOf p k (task_in a.tasks k) = first.tasks k (omega (arith, inside, first.count)) in
          let other : IsTaskOf p k (task_in b.tasks k) = second.tasks k (omega (arith, inside, first.count)) in
          task_alike (task_in a.tasks k) (task_in b.tasks k) (one.locals ∙ sym other.locals) (one.reads ∙ sym other.reads) (one.writes ∙ sym other.writes) (one.code ∙ sym other.code)

  code_alike : a.code ≡ b.code
  code_alike = first.code ∙ sym second.code

  one_emission_text : text_of a ≡ text_of b
  one_emission_text =
      text_is a
      ∙ ap (λ (l : List RawDatum). text_by l (flat_map task_text a.tasks) a.prints a.channels a.code) (first.datums ∙ sym second.datums)
      ∙ ap (λ l. text_by b.datums l a.prints a.channels a.code) tasks_alike
      ∙ ap (λ l. text_by b.datums (flat_map task_text b.tasks) l a.channels a.code) (first.prints ∙ sym second.prints)
      ∙ ap (λ (l : List RawChannel). text_by b.datums (flat_map task_text b.tasks) b.prints l a.code) (channels_alike p placement plan a b first second one other)
      ∙ ap (text_by b.datums (flat_map task_text b.tasks) b.prints b.channels) code_alike
      ∙ sym (text_is b)

-- a program is compiled to one text for a number of processors
pub one_text : (p : ProgramParts) (processors : ℕ) (a b : RawBundle) → IsCompiled p processors a → IsCompiled p processors b → text_of a ≡ text_of b
one_text p processors a b first second =
    let same : OnePlan first.placement second.placement first.plan second.plan =
    one_plan_for p.graph processors first.clustering second.clustering first.placement second.placement first.plan second.plan first.run second.run first.merged second.merged first.ordered second.ordered in
    let (emission, sizes) = moved p first.placement second.placement first.plan second.plan a same.placed same.planned first.emission first.sizes in
    one_emission_text p second.placement second.plan a b emission second.emission sizes second.sizes
  where
    moved : (p : ProgramParts) (m n : Placement) (q r : Plan) (a : RawBundle) → m ≡ n → q ≡ r → IsEmission p m q (roomy a) → HasPlanSizes p m q a → IsEmission p n r (roomy a) × HasPlanSizes p n r a
    moved p m n q r a placed planned emission sizes =
        subst (λ (pl : Plan). IsEmission p n pl (roomy a) × HasPlanSizes p n pl a) planned
        (subst (λ (pm : Placement). IsEmission p pm q (roomy a) × HasPlanSizes p pm q a) placed (emission, sizes))
