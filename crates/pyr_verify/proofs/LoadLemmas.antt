-- The text of a good bundle is one that the loader accepts.
use Rattle.std.proofs.Common.{◌≡◌, ◌≢◌, ℕ, List, [], ◌∷◌, map, refl, sym, ap, subst, ◌∙◌}
use Rattle.std.specs.Prelude.{All}
use Rattle.std.proofs.lemmas.List.Elements.{All-head, All-tail}
use Rattle.pyr_num.specs.declared.ids.DatumId.{DatumId}
use Rattle.pyr_bundle.specs.declared.bundle_task.BundleTask.{BundleTask}
use Rattle.pyr_bundle.specs.declared.capacity.Capacity.{Capacity}
use Rattle.pyr_bundle.specs.declared.instr.Instr.{Instr}
use Rattle.pyr_bundle.specs.declared.instr.Instr.TheVariants.{Recv, Exec, Send}
use Rattle.pyr_bundle.specs.Raw.{shape_of}
use Rattle.pyr_bundle.specs.Parts.{Parts, IsBundle, parts_of, raw_of, bundle_task_of, raw_task_of, datum_id, capacity_of, raw_channel_of, instr_of, raw_instr_of}
use Rattle.pyr_bundletext.specs.Answer.{StandsFor}
use Rattle.pyr_machine.specs.Good.{IsGood, Loads}
use Rattle.pyr_machine.specs.Counts.{step_count}
use Rattle.pyr_loader.specs.declared.load_fault.LoadFault.{LoadFault}
use Rattle.pyr_loader.specs.declared.load_fault.LoadFault.TheVariants.{BadText, Limit, Law, Stuck, Leftover, Memory}
use Rattle.pyr_loader.specs.Answer.{IsLoadOf, IsRefusal}
use Rattle.pyr_loader.specs.Laws.{OneAnswerIsTold}
use Rattle.pyr_loader.proofs.OneAnswer.{one_answer}

again : {X Y : Type 0} (f : Y → X) (g : X → Y) → ((x : X) → f (g x) ≡ x) → (xs : List X) → map f (map g xs) ≡ xs
again f g same [] = refl
again f g same (x ∷ xs) = ap (λ y. y ∷ map f (map g xs)) (same x) ∙ ap (λ ys. x ∷ ys) (again f g same xs)

instr_again : (instr : Instr) → instr_of (raw_instr_of instr) ≡ instr
instr_again (Recv from d) = refl
instr_again (Exec t) = refl
instr_again (Send to d) = refl

pub code_again : (b : Parts) → map (map instr_of) (raw_of b).code ≡ b.code
code_again b = again (map instr_of) (map raw_instr_of) (again instr_of raw_instr_of instr_again) b.code

task_again : (task : BundleTask) → task.code.shape ≡ shape_of (raw_task_of task) → bundle_task_of (raw_task_of task) ≡ task
task_again task shape = λ i. record {
  reads = again datum_id (λ (d : DatumId). d.0) (λ d. refl) task.reads i;
  writes = again datum_id (λ (d : DatumId). d.0) (λ d. refl) task.writes i;
  code = record { ops = task.code.ops; shape = sym shape i };
}

tasks_again : (tasks : List BundleTask) → All (λ task. task.code.shape ≡ shape_of (raw_task_of task)) tasks → map bundle_task_of (map raw_task_of tasks) ≡ tasks
tasks_again [] all = refl
tasks_again (task ∷ tasks) all =
    ap (λ (x : BundleTask). x ∷ map bundle_task_of (map raw_task_of tasks)) (task_again task (All-head (λ (x : BundleTask). x.code.shape ≡ shape_of (raw_task_of x)) task tasks all))
    ∙ ap (λ (xs : List BundleTask). task ∷ xs) (tasks_again tasks (All-tail (λ (x : BundleTask). x.code.shape ≡ shape_of (raw_task_of x)) task tasks all))

-- a bundle is the one of its raw parts
parts_again : (b : Parts) → IsBundle b → b ≡ parts_of (raw_of b)
parts_again b bundle = sym (λ i. record {
  datums = b.datums;
  tasks = tasks_again b.tasks bundle.shapes i;
  prints = again datum_id (λ (d : DatumId). d.0) (λ d. refl) b.prints i;
  channels = again capacity_of raw_channel_of (λ (c : Capacity). refl) b.channels i;
  code = code_again b i;
})

abbrev pub loads_of : Parts → Loads
loads_of b = record { bundle = b; steps = step_count b }

pub is_accepted : (text : List ℕ) (b : Parts) → IsBundle b → IsGood b (step_count b) → StandsFor text (raw_of b) → IsLoadOf text (loads_of b)
is_accepted text b bundle good stands = record {
  is_text = record { raw = raw_of b; stands = stands; lawful = bundle.lawful; parts = parts_again b bundle };
  good = good;
  steps = refl;
}

loading : OneAnswerIsTold
loading = one_answer

-- so it is loaded
pub same_load : (text printed : List ℕ) (b : Parts) (l : Loads) → text ≡ printed → IsBundle b → IsGood b (step_count b) → StandsFor printed (raw_of b) → IsLoadOf text l → l ≡ loads_of b
same_load text printed b l same bundle good stands loads =
    loading.one_load printed l (loads_of b) (subst (λ (t : List ℕ). IsLoadOf t l) same loads) (is_accepted printed b bundle good stands)

-- and want of memory alone is told
refuted : (text : List ℕ) (l : Loads) (fault : LoadFault) → IsLoadOf text l → fault ≢ Memory → IsRefusal text fault → fault ≡ Memory
refuted text l fault loads other refusal = absurd (loading.not_both text l fault other loads refusal)

only_memory : (text : List ℕ) (l : Loads) (fault : LoadFault) → IsLoadOf text l → IsRefusal text fault → fault ≡ Memory
only_memory text l Memory loads refusal = refl
only_memory text l (BadText line) loads refusal = refuted text l (BadText line) loads (λ e. (cc)) refusal
only_memory text l (Limit line which) loads refusal = refuted text l (Limit line which) loads (λ e. (cc)) refusal
only_memory text l (Law number a b) loads refusal = refuted text l (Law number a b) loads (λ e. (cc)) refusal
only_memory text l (Stuck stops) loads refusal = refuted text l (Stuck stops) loads (λ e. (cc)) refusal
only_memory text l (Leftover from to d) loads refusal = refuted text l (Leftover from to d) loads (λ e. (cc)) refusal

pub memory_alone : (text printed : List ℕ) (b : Parts) (fault : LoadFault) → text ≡ printed → IsBundle b → IsGood b (step_count b) → StandsFor printed (raw_of b) → IsRefusal text fault → fault ≡ Memory
memory_alone text printed b fault same bundle good stands refusal =
    only_memory printed (loads_of b) fault (is_accepted printed b bundle good stands) (subst (λ (t : List ℕ). IsRefusal t fault) same refusal)
