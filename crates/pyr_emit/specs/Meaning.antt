-- What a bundle of a plan means: what its program means.
use Rattle.std.specs.Prelude.{◌≡◌, ℕ, ◌↔◌, List}
use Rattle.pyr_seq.specs.Sequential.{values}
use Rattle.pyr_graph.specs.declared.placement.Placement.{Placement}
use Rattle.pyr_graph.specs.declared.plan.Plan.{Plan}
use Rattle.pyr_graphtext.specs.Program.{ProgramParts, IsProgram, tasks_of as program_tasks}
use Rattle.pyr_graphtext.specs.Sequential.{IsOrder}
use Rattle.pyr_bundle.specs.Parts.{Parts, raw_of}
use Rattle.pyr_bundle.specs.Values.{IsOrderOf, tasks_of as bundle_tasks}
use Rattle.pyr_emit.specs.Emission.{IsEmission}

-- The tasks of the bundle can run one by one in the same orders as those of the program, and in each
-- of them, in every frame, every datum gets the value that it has in the program.
pub record MeansTheSame (p : ProgramParts) (b : Parts) : Type 0 where
  pub orders : (frame : ℕ) (order : List ℕ) → IsOrder p.graph order ↔ IsOrderOf b frame order
  pub same : (frame : ℕ) (order : List ℕ) (d : ℕ)
      → values (bundle_tasks b frame) order d ≡ values (program_tasks p frame) order d

-- whoever made it, the bundle of a plan means what its program means
abbrev pub EmissionsKeepTheMeaning : Type 0
EmissionsKeepTheMeaning =
    (p : ProgramParts) (placement : Placement) (plan : Plan) (b : Parts) → IsProgram p
    → IsEmission p placement plan (raw_of b) → MeansTheSame p b
