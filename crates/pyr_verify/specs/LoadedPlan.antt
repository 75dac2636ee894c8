-- A bundle that was compiled by its plan, printed and loaded again. No public clause cites this.
use Rattle.std.specs.Prelude.{◌≡◌, ℕ}
use Rattle.pyr_graphtext.specs.Program.{ProgramParts}
use Rattle.pyr_gantt.specs.Gantt.{time_of}
use Rattle.pyr_bundle.specs.Parts.{raw_of}
use Rattle.pyr_emit.specs.Meaning.{MeansTheSame}
use Rattle.pyr_machine.specs.Counts.{step_count}
use Rattle.pyr_compile.specs.Compiled.{IsCompiled}
use Rattle.pyr_loader.specs.Safe.{IsSafe}
use Rattle.pyr_verify.specs.declared.loading.LoadedPlan.{LoadedPlan}
use Rattle.pyr_verify.specs.Summary.{HasLoadedText}

-- the bundle of a program for so many processors, with the greatest finish of its plan
pub record IsLoadedPlan (program : ProgramParts) (processors : ℕ) (found : LoadedPlan)
    : Type 0 where
  pub compiled : IsCompiled program processors (raw_of found.loaded.bundle)
  pub time : found.time ≡ time_of compiled.plan
  pub text : HasLoadedText found.loaded
  pub steps : found.loaded.steps ≡ step_count found.loaded.bundle
  pub safe : IsSafe found.loaded.bundle found.loaded.steps
  pub means : MeansTheSame program found.loaded.bundle
