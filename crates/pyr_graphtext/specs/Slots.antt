-- What the private steps of printing a task leave. No public clause cites this.
use Rattle.std.specs.Prelude.{◌≡◌, ℕ, length}
use Rattle.pyr_body.specs.declared.slot_names.SlotNames.{SlotNames}
use Rattle.pyr_body.specs.Parts.{BodyParts}
use Rattle.pyr_graphtext.specs.Program.{ProgramParts}
use Rattle.pyr_graphtext.specs.Canonical.{read_names, written_names}

-- the names of the data that a task reads and writes
pub record AreSlotNames (p : ProgramParts) (t : ℕ) (names : SlotNames) : Type 0 where
  pub reads : names.reads ≡ read_names p t
  pub writes : names.writes ≡ written_names p t

-- as many as the body has slots
pub record FitBody (body : BodyParts) (names : SlotNames) : Type 0 where
  pub reads : length names.reads ≡ body.reads
  pub writes : length names.writes ≡ body.writes
