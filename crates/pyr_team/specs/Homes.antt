-- Where the outputs of a bundle are found. No public clause cites this.
use Rattle.std.specs.Prelude.{◌≡◌, ℕ, ◌<◌, List, [], length, slice_index_or}
use Rattle.pyr_num.specs.declared.ids.ProcId.{ProcId}
use Rattle.pyr_seq.specs.Sequential.{value_of}
use Rattle.pyr_bundle.specs.Parts.{Parts, datum_count, proc_id, length_of}
use Rattle.pyr_bundle.specs.Values.{IsOrderOf, tasks_of}
use Rattle.pyr_machine.specs.Good.{print_at}
use Rattle.pyr_machine.specs.State.{IsExec, Writes}

-- the processor executes the task that writes the datum
abbrev pub IsHome : Parts → ℕ → ProcId → Type 0
IsHome b d p = (i : ℕ) × (t : ℕ) × IsExec b p.0 i t × Writes b t d

abbrev pub home_of : List ProcId → ℕ → ProcId
home_of homes d = slice_index_or homes d (proc_id 0)

-- the home of each datum
pub record AreHomes (b : Parts) (homes : List ProcId) : Type 0 where
  pub count : length homes ≡ datum_count b
  pub each : (d : ℕ) → d < datum_count b → IsHome b d (home_of homes d)

-- where the home of a datum was right, it is still
abbrev pub KeepsHomes : Parts → List ProcId → List ProcId → Type 0
KeepsHomes b old new = (d : ℕ) → IsHome b d (home_of old d) → IsHome b d (home_of new d)

-- what the task writes has its home
abbrev pub HasHomes : Parts → ℕ → List ProcId → Type 0
HasHomes b t homes = (d : ℕ) → Writes b t d → IsHome b d (home_of homes d)

-- so has what the tasks write that p executes before this place
abbrev pub HaveHomes : Parts → ℕ → ℕ → List ProcId → Type 0
HaveHomes b p place homes = (i t : ℕ) → i < place → IsExec b p i t → HasHomes b t homes

-- the words of a datum in frame 0, for whatever order of the tasks tells the values
abbrev pub IsValue : Parts → ℕ → List ℕ → Type 0
IsValue b d words =
    (order : List ℕ) → IsOrderOf b 0 order → words ≡ value_of (tasks_of b 0) order d

-- the list of the printed datum at this index
abbrev pub list_at : List (List ℕ) → ℕ → List ℕ
list_at lists i = slice_index_or lists i []

-- there is a list for each printed datum, as long as its length says, and the first n of them are
-- the values
pub record AreCopied (b : Parts) (n : ℕ) (lists : List (List ℕ)) : Type 0 where
  pub count : length lists ≡ length b.prints
  pub lengths : (i : ℕ) → i < length b.prints → length (list_at lists i) ≡ length_of b (print_at b i)
  pub values : (i : ℕ) → i < n → IsValue b (print_at b i) (list_at lists i)
