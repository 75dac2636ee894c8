-- The test for an edge, and the tasks of a list of edges.
use Rattle.std.specs.Prelude.{ℕ, Bool, List, nat_eq, map}
use Rattle.std.specs.List.{list_any}
use Rattle.pyr_graph.specs.declared.edge.Edge.{Edge}
use Rattle.pyr_graph.specs.System.{System, reads_of, writes_of}

-- whether b reads a datum that a writes
abbrev pub has_edge : System → ℕ → ℕ → Bool
has_edge s a b = list_any (λ d. list_any (nat_eq d) (writes_of s a)) (reads_of s b)

-- the tasks that these edges come from
abbrev pub senders : List Edge → List ℕ
senders edges = map (λ e. e.task.0) edges
