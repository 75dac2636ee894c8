-- The lists that the code makes are the parts of the generated program.
use Rattle.std.proofs.Common.{◌≡◌, ℕ, ◌<◌, ◌≤◌, List, map, sym, subst}
use Rattle.std.specs.List.{range_with_len}
use Rattle.pyr_num.specs.declared.ids.DatumId.{DatumId}
use Rattle.pyr_num.specs.declared.limits.TheConstants.Limits.{TASKS}
use Rattle.pyr_num.specs.declared.name.Name.{Name}
use Rattle.pyr_body.specs.Parts.{BodyParts}
use Rattle.pyr_graph.specs.declared.fault.GraphFault.{GraphFault}
use Rattle.pyr_graph.specs.declared.fault.GraphFault.TheVariants.{Memory}
use Rattle.pyr_graph.specs.declared.parts.TaskParts.{TaskParts}
use Rattle.pyr_graph.specs.declared.parts.DatumParts.{DatumParts}
use Rattle.pyr_graph.specs.System.{System, system_of, HoldsItsData}
use Rattle.pyr_graph.specs.Faults.{IsFault}
use Rattle.pyr_graphtext.specs.Program.{IsProgram, program_of}
use Rattle.pyr_make.specs.Layered.{layered_task, layered_datum, layered_body, layered_prints, layered_system, layered_program, layered_datum_name, layered_task_name, as_datums}
use Rattle.pyr_make.proofs.SystemLemmas.{holds_its_data}
use Rattle.pyr_make.proofs.Sound.{only_memory, is_program}

module _ (n : ℕ) (tasks : List TaskParts) (datums : List DatumParts) (prints : List DatumId)
    (same_tasks : tasks ≡ map layered_task (range_with_len 0 n)) (same_datums : datums ≡ map layered_datum (range_with_len 0 n)) (same_prints : prints ≡ as_datums (layered_prints n)) where
  pub parts-system : system_of tasks datums prints ≡ layered_system n
  parts-system = λ i. system_of (same_tasks i) (same_datums i) (same_prints i)

  pub parts_held : 0 < n → HoldsItsData (system_of tasks datums prints)
  parts_held some = subst HoldsItsData (sym parts-system) (holds_its_data n some)

  pub parts_fault : 0 < n → n ≤ TASKS → (fault : GraphFault) → IsFault (system_of tasks datums prints) fault → fault ≡ Memory
  parts_fault some few fault is = only_memory n some few fault (subst (λ (s : System). IsFault s fault) parts-system is)

module _ (n : ℕ) (graph : System) (datums tasks : List Name) (bodies : List BodyParts)
    (same_graph : graph ≡ layered_system n) (same_datums : datums ≡ map layered_datum_name (range_with_len 0 n))
    (same_tasks : tasks ≡ map layered_task_name (range_with_len 0 n)) (same_bodies : bodies ≡ map layered_body (range_with_len 0 n)) where
  pub parts-program : program_of graph datums tasks bodies ≡ layered_program n
  unfolding layered_program
  parts-program = λ i. program_of (same_graph i) (same_datums i) (same_tasks i) (same_bodies i)

  pub parts_program : 0 < n → n ≤ TASKS → IsProgram (program_of graph datums tasks bodies)
  parts_program some few = subst IsProgram (sym parts-program) (is_program n some few)
