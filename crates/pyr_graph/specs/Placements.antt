-- Placements of tasks on processors.
use Rattle.std.specs.Prelude.{ℕ, Bool, nat_eq, slice_index_or}
use Rattle.pyr_graph.specs.declared.placement.Placement.{Placement}

-- the processor of a task
abbrev pub processor_of : Placement → ℕ → ℕ
processor_of placement t = (slice_index_or placement.of t (record { 0 = 0 })).0

-- whether two tasks are on one processor
abbrev pub same_processor : Placement → ℕ → ℕ → Bool
same_processor placement a b = nat_eq (processor_of placement a) (processor_of placement b)
