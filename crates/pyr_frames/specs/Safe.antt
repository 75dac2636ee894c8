-- What is promised of every interleaving of a good bundle over several frames.
use Rattle.std.specs.Prelude.{◌≡◌, ℕ, ◌+◌, ◌*◌, ◌<◌, ◌≤◌, List, ◌∷◌, ◌++◌, All, length}
use Rattle.pyr_net.specs.Net.{action_at, IsEnabled}
use Rattle.pyr_net.specs.Run.{IsRun, end_of, HasStep, IsEnded}
use Rattle.pyr_net.specs.declared.action.Action.TheVariants.{Take}
use Rattle.pyr_bundle.specs.Parts.{Parts, IsBundle, processor_count}
use Rattle.pyr_bundle.specs.Values.{IsOrderOf, printed}
use Rattle.pyr_machine.specs.Machine.{capacity_of}
use Rattle.pyr_machine.specs.Parcels.{parcel_of}
use Rattle.pyr_machine.specs.Good.{IsGood}
use Rattle.pyr_frames.specs.declared.frame_parcel.FrameParcel.{FrameParcel}
use Rattle.pyr_frames.specs.Frames.{FrameWorld, stamped, frame_rules, frame_start, IsFrameDone, AreGained}

-- the processors can make their steps in this order, from the start on, over n frames
abbrev pub IsFrameRun : Parts → ℕ → List ℕ → Type 0
IsFrameRun b n run = IsRun (frame_rules b n) frame_start run

-- the state that this reaches
abbrev pub frame_end : Parts → ℕ → List ℕ → FrameWorld
frame_end b n run = end_of (frame_rules b n) frame_start run

-- every processor has ended all frames there
abbrev pub IsFrameEnd : Parts → ℕ → List ℕ → Type 0
IsFrameEnd b n run = IsEnded (frame_rules b n) (frame_end b n run)

-- the parcel is of this frame, and its words are the value of its datum there
abbrev pub IsValueIn : Parts → List ℕ → ℕ → FrameParcel → Type 0
IsValueIn b order k x = x ≡ stamped k (parcel_of b k order x.parcel.tag.0)

-- Every parcel holds the value of its datum in its frame: those of a processor in the frame that it is
-- in, and those on their way in the frame that they tell.
pub record HoldValues (b : Parts) (order : List ℕ) (w : FrameWorld) : Type 0 where
  pub stores : (p : ℕ) → p < processor_count b →
      All (IsValueIn b order (w.locals p).stage) (w.locals p).local.store
  pub stashes : (p : ℕ) → p < processor_count b →
      All (IsValueIn b order (w.locals p).stage) (w.locals p).local.stash
  pub lists : (p q : ℕ) → All (λ x. IsValueIn b order x.frame x) (w.lists p q)

-- this goes on to a run of so many steps, which finishes
pub record Finishes (b : Parts) (n count : ℕ) (run : List ℕ) : Type 0 where
  pub rest : List ℕ
  pub is_run : IsFrameRun b n (run ++ rest)
  pub steps : length (run ++ rest) ≡ count
  pub done : IsFrameDone b n (frame_end b n (run ++ rest))

-- Of every interleaving of the processors' steps over n frames, where a complete run of one frame has
-- so many steps. A step is one send, one take, one internal instruction, or the end of a frame for one
-- processor.
pub record AreSafe (b : Parts) (steps n : ℕ) : Type 0 where
  -- none gets stuck: in each unfinished state that is reached, some processor can make a step
  pub goes_on : (run : List ℕ) → IsFrameRun b n run → ¬ IsFrameEnd b n run →
      HasStep (frame_rules b n) (frame_end b n run)
  -- each goes on to a finished one, of the steps of n complete runs and one step more for each frame
  -- and processor
  pub completes : (run : List ℕ) → IsFrameRun b n run →
      Finishes b n (n * (steps + processor_count b)) run
  -- none is longer
  pub bounded : (run : List ℕ) → IsFrameRun b n run → length run ≤ n * (steps + processor_count b)
  -- none passes a capacity: each channel holds as many parcels as it may, those of all frames together
  pub fits : (run : List ℕ) → IsFrameRun b n run → (p q : ℕ) →
      length ((frame_end b n run).lists p q) ≤ capacity_of b p q
  -- a finished one has exactly so many steps, and leaves all channels and stashes empty
  pub steps_are : (run : List ℕ) → IsFrameRun b n run → IsFrameEnd b n run →
      length run ≡ n * (steps + processor_count b)
  pub done : (run : List ℕ) → IsFrameRun b n run → IsFrameEnd b n run →
      IsFrameDone b n (frame_end b n run)
  -- all finish in one state
  pub alike : (run other : List ℕ) → IsFrameRun b n run → IsFrameRun b n other →
      IsFrameEnd b n run → IsFrameEnd b n other → frame_end b n run ≡ frame_end b n other
  -- a parcel that a processor takes in a frame was sent in that frame
  pub in_frame : (run : List ℕ) (p from : ℕ) (x : FrameParcel) (xs : List FrameParcel) →
      IsFrameRun b n run → IsEnabled (frame_rules b n) (frame_end b n run) p →
      action_at (frame_rules b n) (frame_end b n run) p ≡ Take from →
      (frame_end b n run).lists from p ≡ x ∷ xs →
      x.frame ≡ ((frame_end b n run).locals p).stage
  -- there is a topological order, one for all frames, and each parcel holds the value that its datum
  -- has in its frame, where the tasks run one by one in such an order
  pub order : (order : List ℕ) × ((k : ℕ) → IsOrderOf b k order)
  pub values : (run order : List ℕ) → IsFrameRun b n run → ((k : ℕ) → IsOrderOf b k order) →
      HoldValues b order (frame_end b n run)
  -- what the processors have gained of a frame in a finished one is what the tasks print in it, run
  -- one by one in any topological order, and it is nothing else
  pub gained : (run order : List ℕ) (k : ℕ) → IsFrameRun b n run → IsFrameEnd b n run → k < n →
      IsOrderOf b k order → AreGained b (frame_end b n run) k (printed b k order)
  pub no_others : (run order : List ℕ) (k : ℕ) (lists : List (List ℕ)) → IsFrameRun b n run →
      IsFrameEnd b n run → k < n → IsOrderOf b k order →
      AreGained b (frame_end b n run) k lists → lists ≡ printed b k order
  -- there is one that finishes
  pub finishes : (run : List ℕ) × IsFrameRun b n run × IsFrameEnd b n run

abbrev pub FramesAreSafe : Type 0
FramesAreSafe = (b : Parts) (steps n : ℕ) → IsBundle b → IsGood b steps → AreSafe b steps n
