-- What is promised of every interleaving of an accepted bundle.
use Rattle.std.specs.Prelude.{◌≡◌, ℕ, ◌≤◌, List, length}
use Rattle.pyr_num.specs.declared.parcel.Parcel.{Parcel}
use Rattle.pyr_net.specs.Net.{World}
use Rattle.pyr_net.specs.Run.{IsRun, end_of, HasStep, IsEnded}
use Rattle.pyr_bundle.specs.Parts.{Parts}
use Rattle.pyr_bundle.specs.Values.{IsOrderOf, printed}
use Rattle.pyr_machine.specs.Machine.{LocalState, start, capacity_of}
use Rattle.pyr_machine.specs.Parcels.{parcels, state_rules}
use Rattle.pyr_machine.specs.Good.{IsDone, AreOutputs}

-- the state that the machine with words reaches by this run, in a frame
abbrev pub reached : Parts → ℕ → List ℕ → World (LocalState Parcel) Parcel
reached b frame run = end_of (state_rules b frame) start run

-- the processors can make their steps in this order, from the start on
abbrev pub IsInterleaving : Parts → ℕ → List ℕ → Type 0
IsInterleaving b frame run = IsRun (state_rules b frame) start run

-- every processor has ended
abbrev pub IsFinished : Parts → ℕ → World (LocalState Parcel) Parcel → Type 0
IsFinished b frame w = IsEnded (state_rules b frame) w

-- Of every interleaving of the processors' steps, in every frame. A step is one send, one take or
-- one internal instruction of one processor.
pub record IsSafe (b : Parts) (steps : ℕ) : Type 0 where
  -- none gets stuck: in each unfinished state that is reached, some processor can make a step
  pub goes_on : (frame : ℕ) (run : List ℕ) → IsInterleaving b frame run
      → ¬ IsFinished b frame (reached b frame run)
      → HasStep (state_rules b frame) (reached b frame run)
  -- none is longer than the rehearsal
  pub bounded : (frame : ℕ) (run : List ℕ) → IsInterleaving b frame run → length run ≤ steps
  -- none passes a capacity: each channel holds as many parcels as it may, at most
  pub fits : (frame : ℕ) (run : List ℕ) → IsInterleaving b frame run → (p q : ℕ)
      → length ((reached b frame run).lists p q) ≤ capacity_of b p q
  -- a finished one is as long as the rehearsal, and leaves all channels and stashes empty
  pub steps_are : (frame : ℕ) (run : List ℕ) → IsInterleaving b frame run
      → IsFinished b frame (reached b frame run) → length run ≡ steps
  pub done : (frame : ℕ) (run : List ℕ) → IsInterleaving b frame run
      → IsFinished b frame (reached b frame run) → IsDone (parcels b frame) b (reached b frame run)
  -- all finish in one state
  pub alike : (frame : ℕ) (run other : List ℕ) → IsInterleaving b frame run
      → IsInterleaving b frame other → IsFinished b frame (reached b frame run)
      → IsFinished b frame (reached b frame other) → reached b frame run ≡ reached b frame other
  -- its outputs are those of the tasks run one by one, in any topological order
  pub outputs : (frame : ℕ) (run order : List ℕ) → IsInterleaving b frame run
      → IsFinished b frame (reached b frame run) → IsOrderOf b frame order
      → AreOutputs b (reached b frame run) (printed b frame order)
  -- and they are no others
  pub no_others : (frame : ℕ) (run order : List ℕ) (lists : List (List ℕ))
      → IsInterleaving b frame run → IsFinished b frame (reached b frame run)
      → IsOrderOf b frame order → AreOutputs b (reached b frame run) lists
      → lists ≡ printed b frame order
  -- there is such an order, and there is an interleaving that finishes
  pub order : (frame : ℕ) → (order : List ℕ) × IsOrderOf b frame order
  pub finishes : (frame : ℕ) → (run : List ℕ) × IsInterleaving b frame run
      × IsFinished b frame (reached b frame run)
