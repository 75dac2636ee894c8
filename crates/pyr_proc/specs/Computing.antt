-- What executing a task does to the store of a processor. No public clause cites this.
use Rattle.std.specs.Prelude.{◌≡◌, ℕ, ◌<◌, true, List, length, Contains, ◌⊎◌}
use Rattle.pyr_num.specs.declared.ids.DatumId.{DatumId}
use Rattle.pyr_bundle.specs.Parts.{Parts, datum_count, length_of}
use Rattle.pyr_bundle.specs.WellFormed.{writes_of}
use Rattle.pyr_machine.specs.State.{numbers}
use Rattle.pyr_proc.specs.declared.entry.Entry.{Entry}
use Rattle.pyr_proc.specs.Entries.{entry_at}

-- how many words an entry has
abbrev pub size_at : List Entry → ℕ → ℕ
size_at entries d = length (entry_at entries d).words

-- there is an entry for each datum, and those that are held have the lengths of their data
pub record AreSized (b : Parts) (entries : List Entry) : Type 0 where
  pub count : length entries ≡ datum_count b
  pub held : (d : ℕ) → d < datum_count b → (entry_at entries d).held ≡ true
      → size_at entries d ≡ length_of b d

-- what the task writes finds lists of the right lengths
abbrev pub CanWrite : Parts → ℕ → List Entry → Type 0
CanWrite b t entries = (d : ℕ) → Contains (writes_of b t) d → size_at entries d ≡ length_of b d

-- entries for these data were filled in, and no other one
pub record FillsIn (ds : List DatumId) (old new : List Entry) : Type 0 where
  pub count : length new ≡ length old
  pub sizes : (d : ℕ) → size_at new d ≡ size_at old d
  pub held : (d : ℕ) → (entry_at new d).held ≡ true
      → ((entry_at old d).held ≡ true) ⊎ Contains (numbers ds) d
