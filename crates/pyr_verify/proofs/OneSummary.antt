-- For a number of tasks and of processors there is one summary.
use Rattle.std.proofs.Common.{◌≡◌, ℕ, List, [], map, sym, ap, ◌∙◌}
use Rattle.pyr_seq.specs.Sequential.{HasOneWriter, outputs_of}
use Rattle.pyr_seq.proofs.SequentialLemmas.{outputs-same}
use Rattle.pyr_graph.specs.System.{datum_numbers, task_numbers}
use Rattle.pyr_graphtext.specs.Program.{ProgramParts, tasks_of}
use Rattle.pyr_gantt.specs.Gantt.{time_of}
use Rattle.pyr_make.specs.Layered.{layered_program}
use Rattle.pyr_make.proofs.SystemLemmas.{writes_own}
use Rattle.pyr_bundle.specs.declared.instr.Instr.{Instr}
use Rattle.pyr_bundle.specs.declared.raw_instr.RawInstr.{RawInstr}
use Rattle.pyr_bundle.specs.Parts.{Parts, raw_of, instr_of}
use Rattle.pyr_machine.specs.Counts.{step_count}
use Rattle.pyr_emit.specs.Emission.{codes}
use Rattle.pyr_compile.specs.Compiled.{IsCompiled}
use Rattle.pyr_compile.proofs.UniqueLemmas.{OnePlan, one_plan_for}
use Rattle.pyr_verify.specs.Summary.{message_count, wrapping_sum, OneSummary}
use Rattle.pyr_verify.proofs.LoadLemmas.{code_again}

-- each task of the generated program writes a datum of its own
one_writer : (n frame : ℕ) → HasOneWriter (tasks_of (layered_program n) frame)
unfolding layered_program
one_writer n frame a b d is_a is_b writes_a writes_b = writes_own n a d writes_a ∙ sym (writes_own n b d writes_b)

-- a program has one plan
one_plan : (p : ProgramParts) (processors : ℕ) (a b : Parts) (first : IsCompiled p processors (raw_of a)) (second : IsCompiled p processors (raw_of b)) → OnePlan first.placement second.placement first.plan second.plan
one_plan p processors a b first second =
    one_plan_for p.graph processors first.clustering second.clustering first.placement second.placement first.plan second.plan first.run second.run first.merged second.merged first.ordered second.ordered

-- and the code of its bundle is one
one_code : (p : ProgramParts) (processors : ℕ) (a b : Parts) → IsCompiled p processors (raw_of a) → IsCompiled p processors (raw_of b) → a.code ≡ b.code
one_code p processors a b first second =
    let same : OnePlan first.placement second.placement first.plan second.plan = one_plan p processors a b first second in
    let raw : (raw_of a).code ≡ (raw_of b).code =
    first.emission.code ∙ (λ i. codes p.graph (same.placed i) (task_numbers (same.planned i).order)) ∙ sym second.emission.code in
    sym (code_again a) ∙ ap (λ (code : List (List RawInstr)). map (map instr_of) code) raw ∙ code_again b

-- the parts of a bundle with this code alone
abbrev coded : List (List Instr) → Parts
coded code = record { datums = []; tasks = []; prints = []; channels = []; code = code }

pub one_summary : OneSummary
one_summary tasks processors s t first second = λ i. record {
  tasks = (first.of_tasks ∙ sym second.of_tasks) i;
  processors = (first.on_processors ∙ sym second.on_processors) i;
  messages = (first.messages ∙ ap (λ c. message_count (coded c)) code ∙ sym second.messages) i;
  steps = (first.steps ∙ ap (λ c. step_count (coded c)) code ∙ sym second.steps) i;
  time = (first.time ∙ ap time_of plan.planned ∙ sym second.time) i;
  sum = (first.sum ∙ ap wrapping_sum outputs ∙ sym second.sum) i;
}
  where
    code : first.bundle.code ≡ second.bundle.code
    code = one_code (layered_program tasks) processors first.bundle second.bundle first.compiled second.compiled

    plan : OnePlan first.compiled.placement second.compiled.placement first.compiled.plan second.compiled.plan
    plan = one_plan (layered_program tasks) processors first.bundle second.bundle first.compiled second.compiled

    outputs : outputs_of (tasks_of (layered_program tasks) 0) first.order (datum_numbers (layered_program tasks).graph.prints)
        ≡ outputs_of (tasks_of (layered_program tasks) 0) second.order (datum_numbers (layered_program tasks).graph.prints)
    outputs = outputs-same (tasks_of (layered_program tasks) 0) first.order second.order (one_writer tasks 0) first.ordered second.ordered (datum_numbers (layered_program tasks).graph.prints)
