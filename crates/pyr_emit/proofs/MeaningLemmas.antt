-- The tasks of the bundle of a plan are those of its program.
use Rattle.std.proofs.Common.{◌≡◌, ℕ, ◌<◌, ◌≤◌, List, [], length, map, get_or, inl, inr, sym, ap, ◌∙◌, subst, arith}
use Rattle.std.specs.Prelude.{replicate}
use Rattle.std.proofs.lemmas.Bool.{cases_lt}
use Rattle.std.proofs.lemmas.List.{length-map, get_or-map, get_or_past}
use Rattle.std.proofs.lemmas.List.FromFn.{length-map-range_with_len, get_or-map-range_with_len}
use Rattle.pyr_num.specs.declared.ids.DatumId.{DatumId}
use Rattle.pyr_code.specs.Tree.{Code}
use Rattle.pyr_code.specs.Seen.{code_of}
use Rattle.pyr_code.specs.Meaning.{outputs_of as code_outputs}
use Rattle.pyr_body.specs.Parts.{BodyParts}
use Rattle.pyr_body.specs.Tree.{End}
use Rattle.pyr_graph.specs.declared.parts.TaskParts.{TaskParts}
use Rattle.pyr_graph.specs.declared.parts.DatumParts.{DatumParts}
use Rattle.pyr_body.specs.Meaning.{body_meaning}
use Rattle.pyr_bodygen.specs.Generated.{generated}
use Rattle.pyr_bodygen.proofs.MeaningLemmas.{same_outputs}
use Rattle.pyr_seq.specs.Sequential.{Tasks, values, IsEdgeOf}
use Rattle.pyr_seq.specs.Walk.{IsTopological}
use Rattle.pyr_graph.specs.declared.placement.Placement.{Placement}
use Rattle.pyr_graph.specs.declared.plan.Plan.{Plan}
use Rattle.pyr_graph.specs.System.{System, task_count, datum_count, reads_of, writes_of, length_of}
use Rattle.pyr_graphtext.specs.Program.{ProgramParts, IsProgram, body_at, blank_outputs, tasks_of as program_tasks}
use Rattle.pyr_bundle.specs.declared.raw_datum.RawDatum.{RawDatum}
use Rattle.pyr_bundle.specs.declared.bundle_task.BundleTask.{BundleTask}
use Rattle.pyr_bundle.specs.Raw.{task_in}
use Rattle.pyr_bundle.specs.Parts.{Parts, raw_of, raw_task_of, no_task, task_at, datum_at}
use Rattle.pyr_bundle.specs.Parts as parts
use Rattle.pyr_bundle.specs.WellFormed as formed
use Rattle.pyr_bundle.specs.Values.{made_by, zeros, tasks_of as bundle_tasks}
use Rattle.pyr_emit.specs.Emission.{IsEmission, IsTaskOf, datum_of, datums_of}
use Rattle.pyr_emit.specs.Meaning.{MeansTheSame}

module _ (p : ProgramParts) (placement : Placement) (plan : Plan) (b : Parts) (program : IsProgram p) (is : IsEmission p placement plan (raw_of b)) where
  abbrev s : System
  s = p.graph

  count : length b.tasks ≡ task_count s
  count = sym (length-map b.tasks raw_task_of) ∙ is.count

  -- the task of a number, as plain numbers
  raw_at : (t : ℕ) → t < task_count s → task_in (raw_of b).tasks t ≡ raw_task_of (task_at b t)
  raw_at t inside = get_or-map raw_task_of b.tasks t no_task (raw_task_of no_task) (omega (arith, count))

  task_is : (t : ℕ) → t < task_count s → IsTaskOf p t (raw_task_of (task_at b t))
  task_is t inside = subst (IsTaskOf p t) (raw_at t inside) (is.tasks t inside)

  -- past the end neither has a task
  none_at : (t : ℕ) → task_count s ≤ t → task_at b t ≡ no_task
  none_at t past = get_or_past b.tasks t no_task (omega (arith, count, past))

  pub same_reads : (t : ℕ) → formed.reads_of b t ≡ reads_of s t
  same_reads t = elim (cases_lt t (task_count s)) [
    | inl inside ↦ (task_is t inside).reads
    | inr past ↦ ap (λ (task : BundleTask). map (λ (d : DatumId). d.0) task.reads) (none_at t past) ∙ sym (ap (λ (task : TaskParts). map (λ (d : DatumId). d.0) task.reads) (get_or_past s.tasks t (record { cost = 0; reads = []; writes = [] }) past))
  ]

  pub same_writes : (t : ℕ) → formed.writes_of b t ≡ writes_of s t
  same_writes t = elim (cases_lt t (task_count s)) [
    | inl inside ↦ (task_is t inside).writes
    | inr past ↦ ap (λ (task : BundleTask). map (λ (d : DatumId). d.0) task.writes) (none_at t past) ∙ sym (ap (λ (task : TaskParts). map (λ (d : DatumId). d.0) task.writes) (get_or_past s.tasks t (record { cost = 0; reads = []; writes = [] }) past))
  ]

  same_lengths : (d : ℕ) → parts.length_of b d ≡ length_of s d
  same_lengths d = ap (λ (xs : List RawDatum). (get_or xs d (record { name = []; length = 0 })).length) is.datums ∙ elim (cases_lt d (datum_count s)) [
    | inl inside ↦ ap (λ (e : RawDatum). e.length) (get_or-map-range_with_len (datum_of p) 0 (datum_count s) d d (record { name = []; length = 0 }) inside (omega arith))
    | inr past ↦ (
        let n = length-map-range_with_len (datum_of p) 0 (datum_count s) in
        ap (λ (e : RawDatum). e.length) (get_or_past (datums_of p) d (record { name = []; length = 0 }) (omega (arith, n, past)))
        ∙ sym (ap (λ (e : DatumParts). e.length) (get_or_past s.datums d (record { length = 0; comm = 0 }) past)))
  ]

  same_zeros : (t : ℕ) → zeros b (formed.writes_of b t) ≡ blank_outputs p t
  same_zeros t = ap (zeros b) (same_writes t) ∙ ap (λ (l : ℕ → ℕ). map (λ d. replicate (l d) 0) (writes_of s t)) (λ i d. same_lengths d i)

  same_outputs_at : (frame t : ℕ) (inputs : List (List ℕ)) → made_by b frame t inputs ≡ body_meaning (body_at p t) frame inputs (blank_outputs p t)
  same_outputs_at frame t inputs = elim (cases_lt t (task_count s)) [
    | inl inside ↦ (
        let task = task_is t inside in
        ap (λ (code : Code). code_outputs frame inputs code (task_at b t).code.shape.locals (zeros b (formed.writes_of b t))) task.code
        ∙ ap (λ n. code_outputs frame inputs (generated (body_at p t).statements) n (zeros b (formed.writes_of b t))) task.locals
        ∙ ap (code_outputs frame inputs (generated (body_at p t).statements) (length (body_at p t).locals)) (same_zeros t)
        ∙ same_outputs (body_at p t) frame inputs (blank_outputs p t))
    | inr past ↦ (
        ap (λ (task : BundleTask). code_outputs frame inputs (code_of task.code.ops) task.code.shape.locals (zeros b (map (λ (d : DatumId). d.0) task.writes))) (none_at t past)
        ∙ sym (ap (λ (body : BodyParts). body_meaning body frame inputs (blank_outputs p t)) (get_or_past p.bodies t (record { statements = End; locals = []; reads = 0; writes = 0 }) (omega (arith, program.bodies, past)))
        ∙ ap (λ (task : TaskParts). body_meaning (record { statements = End; locals = []; reads = 0; writes = 0 }) frame inputs (map (λ d. replicate (length_of s d) 0) (map (λ (d : DatumId). d.0) task.writes))) (get_or_past s.tasks t (record { cost = 0; reads = []; writes = [] }) past)))
  ]

  pub same_tasks : (frame : ℕ) → bundle_tasks b frame ≡ program_tasks p frame
  same_tasks frame i = record {
    count = count i;
    reads = λ t. same_reads t i;
    writes = λ t. same_writes t i;
    outputs = λ t inputs. same_outputs_at frame t inputs i;
  }

  pub means_the_same : MeansTheSame p b
  means_the_same = record {
    orders = λ frame order. (
      subst (λ (tasks : Tasks). IsTopological tasks.count (IsEdgeOf tasks) order) (sym (same_tasks frame)),
      subst (λ (tasks : Tasks). IsTopological tasks.count (IsEdgeOf tasks) order) (same_tasks frame),
    );
    same = λ frame order d. ap (λ (tasks : Tasks). values tasks order d) (same_tasks frame);
  }
