-- What is told of a generated graph that is compiled and run.
use Rattle.std.specs.Prelude.{◌≡◌, ℕ, ◌%◌, ◌^◌, Bool, true, false, List, sum, sum_by, count_by}
use Rattle.pyr_seq.specs.Sequential.{outputs_of}
use Rattle.pyr_graph.specs.System.{datum_numbers}
use Rattle.pyr_graphtext.specs.Program.{tasks_of}
use Rattle.pyr_graphtext.specs.Sequential.{IsOrder}
use Rattle.pyr_gantt.specs.Gantt.{time_of}
use Rattle.pyr_make.specs.Layered.{layered_program}
use Rattle.pyr_bundle.specs.declared.instr.Instr.{Instr}
use Rattle.pyr_bundle.specs.declared.instr.Instr.TheVariants.{Recv, Exec, Send}
use Rattle.pyr_bundle.specs.Parts.{Parts, raw_of}
use Rattle.pyr_emit.specs.Meaning.{MeansTheSame}
use Rattle.pyr_machine.specs.Counts.{step_count}
use Rattle.pyr_machine.specs.Good.{Loads}
use Rattle.pyr_compile.specs.Compiled.{IsCompiled}
use Rattle.pyr_loader.specs.Answer.{IsLoadOf}
use Rattle.pyr_loader.specs.Safe.{IsSafe}
use Rattle.pyr_verify.specs.declared.summary.Summary.{Summary}

abbrev pub is_send : Instr → Bool
is_send (Send to d) = true
is_send (Recv from d) = false
is_send (Exec t) = false

-- the sends in the code of all processors
abbrev pub message_count : Parts → ℕ
message_count b = sum_by (count_by is_send) b.code

-- the sum of all words of these lists, as a word of 64 bits
abbrev pub wrapping_sum : List (List ℕ) → ℕ
wrapping_sum lists = sum_by sum lists % 2 ^ 64

-- What is told of the generated program of so many tasks and of its bundle for so many processors:
-- the sends, the steps of a complete run, the greatest finish of the plan, and the sum of what the
-- tasks print in frame 0, run one by one in a topological order.
pub record IsSummary (tasks processors : ℕ) (summary : Summary) : Type 0 where
  pub of_tasks : summary.tasks ≡ tasks
  pub on_processors : summary.processors ≡ processors
  pub bundle : Parts
  pub compiled : IsCompiled (layered_program tasks) processors (raw_of bundle)
  pub messages : summary.messages ≡ message_count bundle
  pub steps : summary.steps ≡ step_count bundle
  pub time : summary.time ≡ time_of compiled.plan
  pub order : List ℕ
  pub ordered : IsOrder (layered_program tasks).graph order
  pub sum : summary.sum
      ≡ wrapping_sum (outputs_of (tasks_of (layered_program tasks) 0) order
      (datum_numbers (layered_program tasks).graph.prints))

-- there is one such summary
abbrev pub OneSummary : Type 0
OneSummary =
    (tasks processors : ℕ) (summary other : Summary) → IsSummary tasks processors summary
    → IsSummary tasks processors other → summary ≡ other

-- the loader accepts the text of this bundle
abbrev pub HasLoadedText : Loads → Type 0
HasLoadedText loaded = (text : List ℕ) × IsLoadOf text loaded

-- The loader accepts the text of the compiled bundle. In every interleaving of its processors' steps
-- each unfinished state has an enabled step, no run is longer than the steps that are told, no
-- channel passes its capacity, and the finished outputs are those of the tasks run one by one in any
-- topological order. In every frame its data have the values that they have in the program.
pub record IsVerified (tasks processors : ℕ) (summary : Summary) : Type 0 where
  pub loaded : Loads
  pub text : HasLoadedText loaded
  pub compiled : IsCompiled (layered_program tasks) processors (raw_of loaded.bundle)
  pub steps : summary.steps ≡ loaded.steps
  pub safe : IsSafe loaded.bundle loaded.steps
  pub means : MeansTheSame (layered_program tasks) loaded.bundle
