-- A law over the definitions alone.
use Rattle.std.specs.Prelude.{◌≡◌, ℕ, List}
use Rattle.pyr_graph.specs.declared.placement.Placement.{Placement}
use Rattle.pyr_graph.specs.System.{System}
use Rattle.pyr_graph.specs.Clusters.{IsPartition}
use Rattle.pyr_merge.specs.Merge.{IsMerged}

-- a clustering has one placement on a number of processors
abbrev pub OnePlacement : Type 0
OnePlacement =
    (s : System) (clusters : List (List ℕ)) (processors : ℕ) (one other : Placement)
    → IsPartition s clusters → IsMerged s clusters processors one
    → IsMerged s clusters processors other → one ≡ other
