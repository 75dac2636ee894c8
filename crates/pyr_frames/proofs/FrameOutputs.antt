-- What is read of the machines of all frames, once every processor has ended a frame.
use Rattle.std.proofs.Common.{◌≡◌, ℕ, ◌<◌, List, slice_get, Some, sym, ◌∙◌, ap, subst}
use mathlib.Core.Path.{fun_ext}
use Rattle.pyr_net.specs.Net.{World}
use Rattle.pyr_net.specs.Pipeline.{side_by_side}
use Rattle.pyr_net.specs.Run.{IsEnded, end_of}
use Rattle.pyr_net.proofs.Diamond.{world_path}
use Rattle.pyr_num.specs.declared.parcel.Parcel.{Parcel}
use Rattle.pyr_bundle.specs.Parts.{Parts, processor_count}
use Rattle.pyr_machine.specs.Machine.{LocalState, start}
use Rattle.pyr_machine.specs.Parcels.{state_rules}
use Rattle.pyr_machine.specs.Good.{AreOutputs, Prints}
use Rattle.pyr_machine.specs.Follow.{local_map, world_map}
use Rattle.pyr_machine.specs.State.{States, state_world}
use Rattle.pyr_machine.proofs.Printed.{outputs_printed}
use Rattle.pyr_machine.proofs.Ordered.{has_order}
use Rattle.pyr_frames.specs.Frames.{stamped, bare, frames_of, AreGained}
use Rattle.pyr_frames.specs.FrameState.{frame_of, worlds_in, stages_in, IsFramed}
use Rattle.pyr_frames.proofs.Frames.{bare-stamped}
use Rattle.pyr_frames.proofs.FrameSteps.{machine_action}
use Rattle.pyr_frames.proofs.Safety.{FrameAt, frame_at, gained_side}

-- the frame can be taken off all parcels of a state
bare_world : (k : ℕ) (w : World (LocalState Parcel) Parcel) →
    world_map bare (world_map (stamped k) w) ≡ w
bare_world k w =
    world_path _ _ (fun_ext (λ p. local (w.locals p)))
    (fun_ext (λ p. fun_ext (λ q. bare-stamped k (w.lists p q))))
  where
    local : (l : LocalState Parcel) → local_map bare (local_map (stamped k) l) ≡ l
    local l = λ i. record {
      place = l.place;
      store = bare-stamped k l.store i;
      stash = bare-stamped k l.stash i;
    }

module _ (b : Parts) (steps n : ℕ) (stages : List ℕ) (states : List States)
    (h : IsFramed b steps n stages states) (k : ℕ) (less : k < n)
    (passed : (p : ℕ) → p < processor_count b → k < stages_in stages p) (s : States)
    (found : slice_get states k ≡ Some s) where
  -- the machine of that frame has ended
  pub has_ended : IsEnded (state_rules s.bundle s.frame) (state_world s)
  has_ended p l =
      sym (machine_action b states k s p h.machines found) ∙ h.staged.passed p k hp (passed p hp)
    where
      hp : p < processor_count b
      hp = subst (λ c. p < processor_count c) (h.machines k s found).0 l

  module _ (lists : List (List ℕ)) (are : AreOutputs s.bundle (state_world s) lists) where
    -- what it prints
    pub print_there : Prints b k lists
    print_there order top =
        outputs_printed b k order at.run lists h.is_bundle top at.is_run
        (subst (λ w. AreOutputs b w lists) same
        (subst (λ c. AreOutputs c (state_world s) lists) (h.machines k s found).0 are))
      where
        at : FrameAt b steps n h.is_bundle h.good k (worlds_in states k)
        at =
            frame_at b steps n h.is_bundle h.good (worlds_in states) (stages_in stages) k h.staged less

        same : state_world s ≡ end_of (state_rules b k) start at.run
        same =
            sym (bare_world k (state_world s))
            ∙ ap (world_map bare) (sym (ap (frame_of k) found) ∙ at.ends)
            ∙ bare_world k (end_of (state_rules b k) start at.run)

    -- is what the processors have gained of the frame
    pub gained_there : AreGained b (side_by_side (frames_of b) n (worlds_in states) (stages_in stages)) k lists
    gained_there =
        let o = has_order b steps k h.is_bundle h.good in
        subst (AreGained b (side_by_side (frames_of b) n (worlds_in states) (stages_in stages)) k)
        (sym (print_there o.0 o.1))
        (gained_side b steps n h.is_bundle h.good (worlds_in states) (stages_in stages) o.0 k h.staged passed less o.1)
