-- The bundle that a program is compiled to.
use Rattle.std.specs.Prelude.{◌≡◌, ℕ, ◌<◌, List, length, slice_index_or}
use Rattle.pyr_graph.specs.Clusters.{cluster_numbers}
use Rattle.pyr_graph.specs.System.{System}
use Rattle.pyr_graph.specs.declared.clustering.Clustering.{Clustering}
use Rattle.pyr_graph.specs.declared.placement.Placement.{Placement}
use Rattle.pyr_graph.specs.declared.plan.Plan.{Plan}
use Rattle.pyr_graphtext.specs.Program.{ProgramParts}
use Rattle.pyr_dsc.specs.Run.{IsRun}
use Rattle.pyr_merge.specs.Merge.{IsMerged}
use Rattle.pyr_rcp.specs.Order.{IsOrdered}
use Rattle.pyr_bundle.specs.declared.raw_bundle.RawBundle.{RawBundle}
use Rattle.pyr_bundle.specs.declared.capacity.Capacity.{Capacity}
use Rattle.pyr_bundle.specs.Parts.{Parts, raw_of, no_channel}
use Rattle.pyr_emit.specs.Emission.{IsEmission, channels_of}
use Rattle.pyr_size.specs.Sizes.{sized}
use Rattle.pyr_compile.specs.PlanRun.{PlanCompletes}

-- This is the plan of a graph for so many processors: its tasks are clustered, the clusters are merged
-- onto the processors, and the tasks are ordered there.
pub record IsPlanned (s : System) (processors : ℕ) (placement : Placement) (plan : Plan)
    : Type 0 where
  pub clustering : Clustering
  pub run : IsRun s clustering
  pub merged : IsMerged s (cluster_numbers clustering.clusters) processors placement
  pub ordered : IsOrdered s placement plan

-- the same bundle with room for all its sends in each channel
abbrev pub roomy : RawBundle → RawBundle
roomy raw = record raw { channels = channels_of raw.code }

-- The capacity of each channel is its occupancy: the greatest number of parcels that it has along the
-- run of the plan, where each channel has room for all its sends.
pub record HasPlanSizes (program : ProgramParts) (placement : Placement) (plan : Plan)
    (raw : RawBundle) : Type 0 where
  pub emitted : Parts
  pub is_roomy : raw_of emitted ≡ roomy raw
  pub complete : PlanCompletes program placement plan emitted
  pub capacities : raw.channels ≡ (raw_of (sized emitted complete.run)).channels

-- These are the parts of the bundle of a program for so many processors: its tasks are clustered, the
-- clusters are merged onto the processors, the tasks are ordered there, and the bundle is that of this
-- plan, with capacities by occupancy.
pub record IsCompiled (program : ProgramParts) (processors : ℕ) (raw : RawBundle) : Type 0 where
  pub clustering : Clustering
  pub run : IsRun program.graph clustering
  pub placement : Placement
  pub merged : IsMerged program.graph (cluster_numbers clustering.clusters) processors placement
  pub plan : Plan
  pub ordered : IsOrdered program.graph placement plan
  pub emission : IsEmission program placement plan (roomy raw)
  pub sizes : HasPlanSizes program placement plan raw

-- The bundle is that of a plan of the program for so many processors, and the run of this plan is
-- complete.
pub record RunsByItsPlan (program : ProgramParts) (processors : ℕ) (b : Parts) : Type 0 where
  pub compiled : IsCompiled program processors (raw_of b)
  pub complete : PlanCompletes program compiled.placement compiled.plan b

-- the bundle with other channels
abbrev pub with_channels : Parts → List Capacity → Parts
with_channels b channels = record b { channels = channels }

-- these channels are between the same processors, one by one
pub record SamePairs (channels others : List Capacity) : Type 0 where
  pub count : length others ≡ length channels
  pub from : (i : ℕ) → i < length channels → (slice_index_or others i no_channel).from ≡ (slice_index_or channels i no_channel).from
  pub to : (i : ℕ) → i < length channels → (slice_index_or others i no_channel).to ≡ (slice_index_or channels i no_channel).to
