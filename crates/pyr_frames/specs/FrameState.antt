-- The frame net as one machine for each frame.
use Rattle.std.specs.Prelude.{◌≡◌, ℕ, ◌<◌, List, length, slice_get, slice_index, Option, Some, None}
use Rattle.pyr_num.specs.declared.lists.Outputs.{Outputs}
use Rattle.pyr_net.specs.Net.{World}
use Rattle.pyr_net.specs.Pipeline.{joined, side_by_side, IsStaged}
use Rattle.pyr_bundle.specs.Parts.{Parts, IsBundle, processor_count}
use Rattle.pyr_machine.specs.Machine.{LocalState, start}
use Rattle.pyr_machine.specs.Good.{IsGood, Prints}
use Rattle.pyr_machine.specs.Follow.{world_map}
use Rattle.pyr_machine.specs.State.{States, state_world}
use Rattle.pyr_frames.specs.declared.frame_parcel.FrameParcel.{FrameParcel}
use Rattle.pyr_frames.specs.Frames.{FrameWorld, stamped, frames_of}

-- a bundle with the steps of a complete run of it, the number of frames, the frame that each
-- processor is in, and the machine of each frame
pub record FrameStates : Type 0 where
  pub bundle : Parts
  pub steps : ℕ
  pub frames : ℕ
  pub stages : List ℕ
  pub states : List States

-- the state of frame k as a net with parcels that tell their frame; behind the last one, the start
abbrev pub frame_of : ℕ → Option States → World (LocalState FrameParcel) FrameParcel
frame_of k None = start
frame_of k (Some s) = world_map (stamped k) (state_world s)

abbrev pub worlds_in : List States → ℕ → World (LocalState FrameParcel) FrameParcel
worlds_in states k = frame_of k (slice_get states k)

abbrev pub stages_in : List ℕ → ℕ → ℕ
stages_in stages p = slice_index stages p

-- the state of the frame net: the machines side by side
abbrev pub frame_world : FrameStates → FrameWorld
frame_world s =
    side_by_side (frames_of s.bundle) s.frames (worlds_in s.states) (stages_in s.stages)

-- the machine of each frame is of this bundle, and in that frame
abbrev pub HaveFrames : Parts → List States → Type 0
HaveFrames b states =
    (k : ℕ) (s : States) → slice_get states k ≡ Some s → (s.bundle ≡ b) × (s.frame ≡ k)

-- so many machines of a bundle, one for each frame, all at the start
pub record AreFresh (b : Parts) (n : ℕ) (states : List States) : Type 0 where
  pub count : length states ≡ n
  pub machines : HaveFrames b states
  pub starts : (k : ℕ) (s : States) → slice_get states k ≡ Some s → state_world s ≡ start

-- how many parcels of these frames are on their way from p to q
abbrev pub way_len : List States → ℕ → ℕ → ℕ → ℕ
way_len states p q n = length (joined n (λ k. (worlds_in states k).lists p q))

-- this is the number of a processor of each machine
abbrev pub HaveProcessors : ℕ → List States → Type 0
HaveProcessors p states =
    (k : ℕ) (s : States) → slice_get states k ≡ Some s → p < processor_count s.bundle

-- The machines stand side by side as in a run of the frame net.
pub record IsFramed (b : Parts) (steps n : ℕ) (stages : List ℕ) (states : List States) : Type 0
  where
    pub is_bundle : IsBundle b
    pub good : IsGood b steps
    pub places : length stages ≡ processor_count b
    pub count : length states ≡ n
    pub machines : HaveFrames b states
    pub staged : IsStaged (frames_of b) n start (worlds_in states) (stages_in stages)

-- every processor has ended this frame
pub record HasPassed (s : FrameStates) (k : ℕ) : Type 0 where
  pub within : k < s.frames
  pub each : (p : ℕ) → p < processor_count s.bundle → k < ((frame_world s).locals p).stage

-- these are the outputs of so many frames, from frame 0 on
pub record PrintFrames (b : Parts) (n : ℕ) (outputs : List Outputs) : Type 0 where
  pub count : length outputs ≡ n
  pub each : (k : ℕ) (o : Outputs) → slice_get outputs k ≡ Some o → Prints b k o.lists
