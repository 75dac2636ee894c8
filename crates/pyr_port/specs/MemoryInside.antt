-- How a source and a sink in memory are laid out.
use Rattle.std.specs.Prelude.{◌≡◌, ◌≤◌, ◌==◌, is_some, unwrap_or, length, drop, vec_capacity}
use Rattle.pyr_port.specs.declared.memory_source.MemorySource.TheInside.{Inside as SourceInside}
use Rattle.pyr_port.specs.declared.memory_sink.MemorySink.TheInside.{Inside as SinkInside}
use Rattle.pyr_port.specs.Memory.{SourceState, SinkState}

-- what is seen of a source
abbrev pub source_in : SourceInside → SourceState
source_in s = record { left = drop s.at s.bytes.items; most = s.plan.most; fail = s.plan.fail.items; calls = s.calls }

-- what is seen of a sink
abbrev pub sink_in : SinkInside → SinkState
sink_in s = record { written = s.bytes.items; room = s.room; most = s.plan.most; fail = s.plan.fail.items; calls = s.calls; used_up = s.used_up }

-- the room is taken, and a call has used it up exactly where nothing of it is left
pub record IsReserved (s : SinkInside) : Type 0 where
  pub within : length s.bytes.items ≤ s.room
  pub reserved : s.room ≤ vec_capacity s.bytes
  pub full : is_some s.used_up ≡ (length s.bytes.items == s.room)
  pub past : unwrap_or s.used_up 0 ≤ s.calls
