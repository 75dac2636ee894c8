-- The calm capacities of a bundle, and what they are worth.
use Rattle.std.specs.Prelude.{◌≡◌, ℕ, ◌-◌, ◌<◌, ◌≤◌, List, length, map, slice_index_or}
use Rattle.pyr_bundle.specs.declared.capacity.Capacity.{Capacity}
use Rattle.pyr_bundle.specs.Parts.{Parts, IsBundle, code_at, channel_at, no_channel, with_capacity}
use Rattle.pyr_bundle.specs.WellFormed.{IsFineCapacity}
use Rattle.pyr_machine.specs.Machine.{start}
use Rattle.pyr_machine.specs.Parcels.{state_rules}
use Rattle.pyr_machine.specs.Good.{IsGood}
use Rattle.pyr_machine.specs.Counts.{sends_to, step_count}
use Rattle.pyr_calm.specs.Calm.{IsGreatestLength, NeverWaits, SomeSendWaits}

-- the channel of this index; past the end, one that holds nothing
abbrev pub line_at : List Capacity → ℕ → Capacity
line_at lines i = slice_index_or lines i no_channel

-- the bundle with these channels in place of its own
abbrev pub with_channels : Parts → List Capacity → Parts
with_channels b lines = record b { channels = lines }

-- the channel with room for all sends of its sender to its receiver
abbrev pub all_room : Parts → Capacity → Capacity
all_room b c = record c { capacity = sends_to c.to.0 (code_at b c.from.0) }

-- the bundle in which each channel has room for all its sends
abbrev pub roomy : Parts → Parts
roomy b = with_channels b (map (all_room b) b.channels)

-- the calm capacity from p to q: the greatest length of the list from p to q over all reached
-- states, in whatever frame, where each channel has room for all its sends
abbrev pub IsCalmCapacity : Parts → ℕ → ℕ → ℕ → Type 0
IsCalmCapacity b p q n =
    (frame : ℕ) → IsGreatestLength (state_rules (roomy b) frame) start p q n

-- these are the channels of the bundle, with whatever capacities
pub record HasPairs (b : Parts) (lines : List Capacity) : Type 0 where
  pub count : length lines ≡ length b.channels
  pub from : (i : ℕ) → i < length lines → (line_at lines i).from ≡ (channel_at b i).from
  pub to : (i : ℕ) → i < length lines → (line_at lines i).to ≡ (channel_at b i).to

-- these are the channels of the bundle, each with its calm capacity
pub record AreCalm (b : Parts) (lines : List Capacity) : Type 0 where
  pub pairs : HasPairs b lines
  pub calm : (i : ℕ) → i < length lines
      → IsCalmCapacity b (line_at lines i).from.0 (line_at lines i).to.0 (line_at lines i).capacity

-- each capacity is from 1 to the number of sends
abbrev pub AreFine : Parts → List Capacity → Type 0
AreFine b lines = (i : ℕ) → i < length lines → IsFineCapacity b (line_at lines i)

-- no send ever waits, in whatever frame
abbrev pub IsCalm : Parts → Type 0
IsCalm b = (frame : ℕ) → NeverWaits (state_rules b frame) start

-- in whatever frame, a send waits in some interleaving
abbrev pub HasWaitingSend : Parts → Type 0
HasWaitingSend b = (frame : ℕ) → SomeSendWaits (state_rules b frame) start

-- the bundle with its calm capacities
pub record IsCalmed (old new : Parts) : Type 0 where
  pub same : new ≡ with_channels old new.channels
  pub calm : AreCalm old new.channels
  pub good : IsGood new (step_count new)
  pub waits : IsCalm new

-- with its calm capacities a good bundle is good, and no send ever waits
pub record StaysGood (b : Parts) : Type 0 where
  pub good : IsGood b (step_count b)
  pub waits : IsCalm b

abbrev pub CalmNeverWaits : Type 0
CalmNeverWaits =
    (b : Parts) (lines : List Capacity) → IsBundle b → IsGood b (step_count b) → AreCalm b lines
    → StaysGood (with_channels b lines)

-- with one of them lowered by one, and the others as they are, some send waits
abbrev pub lowered : Parts → ℕ → Parts
lowered b i = with_capacity b i ((channel_at b i).capacity - 1)

abbrev pub LowerWaits : Type 0
LowerWaits =
    (b : Parts) (lines : List Capacity) (i : ℕ) → IsBundle b → AreCalm b lines → i < length lines
    → 2 ≤ (line_at lines i).capacity → HasWaitingSend (lowered (with_channels b lines) i)

-- a bundle has one list of calm capacities
abbrev pub OneIsCalm : Type 0
OneIsCalm =
    (b : Parts) (lines others : List Capacity) → AreCalm b lines → AreCalm b others
    → lines ≡ others
