-- The sequential meaning of a bundle: its tasks run one by one over a map from data to words.
use Rattle.std.specs.Prelude.{◌≡◌, ℕ, ◌<◌, List, map, length, replicate, Some}
use Rattle.pyr_code.specs.Seen.{code_of}
use Rattle.pyr_code.specs.Meaning.{outputs_of as code_outputs}
use Rattle.pyr_seq.specs.Walk.{IsTopological}
use Rattle.pyr_seq.specs.Sequential.{Tasks, values, value_of, outputs_of, IsEdgeOf}
use Rattle.pyr_bundle.specs.Parts.{Parts, IsBundle, task_count, datum_count, task_at, length_of}
use Rattle.pyr_bundle.specs.WellFormed.{reads_of, writes_of}

-- outputs of zeros, of the lengths of these data
abbrev pub zeros : Parts → List ℕ → List (List ℕ)
zeros b datums = map (λ d. replicate (length_of b d) 0) datums

-- what a task makes of its inputs in a frame: the outputs of its code's meaning, from zeros
abbrev pub made_by : Parts → ℕ → ℕ → List (List ℕ) → List (List ℕ)
made_by b frame t inputs =
    code_outputs frame inputs (code_of (task_at b t).code.ops) (task_at b t).code.shape.locals
    (zeros b (writes_of b t))

-- the tasks of a bundle in a frame
abbrev pub tasks_of : Parts → ℕ → Tasks
tasks_of b frame = record {
  count = task_count b;
  reads = reads_of b;
  writes = writes_of b;
  outputs = made_by b frame;
}

-- an order of the tasks in which each comes after those that write what it reads
abbrev pub IsOrderOf : Parts → ℕ → List ℕ → Type 0
IsOrderOf b frame order = IsTopological (task_count b) (IsEdgeOf (tasks_of b frame)) order

-- what a bundle prints in a frame: the words of its printed data, the tasks run in this order
abbrev pub printed : Parts → ℕ → List ℕ → List (List ℕ)
printed b frame order = outputs_of (tasks_of b frame) order (map (λ d. d.0) b.prints)

-- Any two orders of a bundle's tasks give the same values.
abbrev pub AnyOrderGivesTheValues : Type 0
AnyOrderGivesTheValues =
    (b : Parts) (frame : ℕ) (order other : List ℕ) → IsBundle b → IsOrderOf b frame order
    → IsOrderOf b frame other → (d : ℕ)
    → values (tasks_of b frame) order d ≡ values (tasks_of b frame) other d

-- Every datum of a bundle has a value, of as many words as its length says.
abbrev pub EveryDatumHasAValue : Type 0
EveryDatumHasAValue =
    (b : Parts) (frame : ℕ) (order : List ℕ) → IsBundle b → IsOrderOf b frame order
    → (d : ℕ) → d < datum_count b
    → (values (tasks_of b frame) order d ≡ Some (value_of (tasks_of b frame) order d))
    × (length (value_of (tasks_of b frame) order d) ≡ length_of b d)
