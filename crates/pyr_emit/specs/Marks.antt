-- Tables of marks, from which blocks are made. No public clause cites this.
use Rattle.std.specs.Prelude.{◌≡◌, ℕ, ◌<◌, ◌≤◌, Bool, false, not, ◌&&◌, nat_eq, List, [], ◌∷◌, ◌++◌, length, map, filter, slice_index_or}
use Rattle.std.specs.List.{flat_map, range_with_len}
use Rattle.pyr_graph.specs.declared.placement.Placement.{Placement}
use Rattle.pyr_graph.specs.System.{System, datum_count, writer_of}
use Rattle.pyr_graph.specs.Placements.{processor_of, same_processor}
use Rattle.pyr_bundle.specs.declared.raw_instr.RawInstr.{RawInstr}
use Rattle.pyr_bundle.specs.declared.raw_instr.RawInstr.TheVariants.{Exec, Send}
use Rattle.pyr_emit.specs.Emission.{is_read_on, receive_of, data_read, data_written}

-- whether the datum is marked
abbrev pub is_marked : List Bool → ℕ → Bool
is_marked marks d = slice_index_or marks d false

-- the data that these tasks read on processor q are marked
pub record AreMarks (s : System) (placement : Placement) (tasks : List ℕ) (q : ℕ) (marks : List Bool) :
    Type 0 where
  pub full : length marks ≡ datum_count s
  pub each : (d : ℕ) → is_marked marks d ≡ is_read_on s placement tasks q d

-- the marks of processor q, of a table for all processors
abbrev pub marks_of : List (List Bool) → ℕ → List Bool
marks_of readers q = slice_index_or readers q []

-- for each processor, the data that these tasks read there are marked
pub record AreReaders (s : System) (placement : Placement) (tasks : List ℕ) (readers : List (List Bool)) :
    Type 0 where
  pub full : length readers ≡ placement.processors
  pub rows : (q : ℕ) → q < placement.processors
      → AreMarks s placement tasks q (marks_of readers q)

-- every row of a table has an entry for each datum below the count, or more
pub record AreFull (readers : List (List Bool)) (count : ℕ) : Type 0 where
  pub rows : (q : ℕ) → q < length readers → count ≤ length (marks_of readers q)

-- the receives of t where the data that are there already are marked
abbrev pub marked_receives : System → Placement → List Bool → ℕ → List RawInstr
marked_receives s placement known t =
    map (receive_of s placement)
    (filter (λ d. not (same_processor placement (writer_of s d) t) && not (is_marked known d))
    (data_read s t))

-- the sends of t where the data that each processor reads are marked
abbrev pub marked_sends_of : List (List Bool) → ℕ → ℕ → List RawInstr
marked_sends_of readers home d =
    map (λ q. Send q d)
    (filter (λ q. not (nat_eq q home) && is_marked (marks_of readers q) d)
    (range_with_len 0 (length readers)))

abbrev pub marked_sends : System → List (List Bool) → ℕ → ℕ → List RawInstr
marked_sends s readers home t = flat_map (marked_sends_of readers home) (data_written s t)

-- the block of t by these marks
abbrev pub marked_block : System → Placement → List Bool → List (List Bool) → ℕ → List RawInstr
marked_block s placement known readers t =
    marked_receives s placement known t
    ++ Exec t
    ∷ marked_sends s readers (processor_of placement t) t
