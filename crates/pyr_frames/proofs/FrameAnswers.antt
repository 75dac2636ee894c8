-- What each call of the machines of all frames answers, in terms of the value that its contract sees:
-- `v` is that value made of the fields, and `now` the same as the contract has it.
use Rattle.std.proofs.Common.{◌≡◌, ◌≢◌, ℕ, ◌+◌, ◌<◌, ◌↔◌, Bool, List, set, get_or, slice_get, nat_lt, IsTrue, Some, sym, ◌∙◌, ap, subst}
use Rattle.std.proofs.lemmas.Option.{slice_get_read}
use Rattle.pyr_net.specs.Net.{IsEnabled, action_at, next}
use Rattle.pyr_net.specs.Pipeline.{past_end, side_by_side}
use Rattle.pyr_net.specs.Run.{IsEnded}
use Rattle.pyr_net.specs.declared.action.Action.{Action}
use Rattle.pyr_net.specs.declared.action.Action.TheVariants.{Send, Ended}
use Rattle.pyr_bundle.specs.Parts.{processor_count}
use Rattle.pyr_machine.specs.Machine.{capacity_of}
use Rattle.pyr_machine.specs.Parcels.{state_rules}
use Rattle.pyr_machine.specs.Good.{AreOutputs, Prints}
use Rattle.pyr_machine.specs.State.{States, state_world}
use Rattle.pyr_frames.specs.Frames.{frames_of, frame_rules, AreGained}
use Rattle.pyr_frames.specs.FrameState.{FrameStates, worlds_in, stages_in, frame_world, HaveProcessors, way_len, IsFramed, HasPassed}
use Rattle.pyr_frames.proofs.FrameCalls.{have_processors, before_end, in_frames, read_again, action_is, to_known, enabled_end, enabled_send, enabled_other, ended_step, own_enabled, own_step}
use Rattle.pyr_frames.proofs.FrameOutputs.{has_ended, print_there, gained_there}

-- this processor can make a step
abbrev CanStep : ℕ → FrameStates → Type 0
CanStep p s = IsEnabled (frame_rules s.bundle s.frames) (frame_world s) p

module _ (v now : FrameStates) (same : v ≡ now)
    (h : IsFramed v.bundle v.steps v.frames v.stages v.states) where
  -- What is read of p, which is in frame f.
  module _ (p f : ℕ) (read : f ≡ get_or v.stages p f) where
    module _ (actor : p < processor_count now.bundle) (inside : f ≢ v.frames) (s : States)
        (found : s ≡ get_or v.states f s) (k : Action)
        (does : k ≡ action_at (state_rules s.bundle s.frame) (state_world s) p) where
      known : p < processor_count v.bundle
      known = subst (λ (x : FrameStates). p < processor_count x.bundle) (sym same) actor

      less : f < v.frames
      less = before_end v.bundle v.steps v.frames v.stages v.states h p known f read inside

      pub told_action : past_end k ≡ action_at (frame_rules now.bundle now.frames) (frame_world now) p
      told_action =
          action_is v.bundle v.steps v.frames v.stages v.states h p known f read s less found k does
          ∙ ap (λ (x : FrameStates). action_at (frame_rules x.bundle x.frames) (frame_world x) p) same

      pub told_end : k ≡ Ended → CanStep p now
      told_end e =
          subst (CanStep p) same
          (enabled_end v.bundle v.steps v.frames v.stages v.states h p known f read s less found k does e)

      pub told_to : (to : ℕ) → k ≡ Send to → HaveProcessors to v.states
      told_to to e =
          have_processors v.bundle v.states to h.machines
          (to_known v.bundle v.steps v.frames v.stages v.states h p known f read s less found k does to e)

      pub told_send : (to way room : ℕ) → k ≡ Send to → way ≡ way_len v.states p to v.frames →
          room ≡ capacity_of v.bundle p to → IsTrue (nat_lt way room) ↔ CanStep p now
      told_send to way room e w r =
          subst (λ x. IsTrue (nat_lt way room) ↔ CanStep p x) same
          (enabled_send v.bundle v.steps v.frames v.stages v.states h p known f read s less found k does to way room e w r)

      pub told_other : (r : Bool) → ((to : ℕ) → k ≢ Send to) × (k ≢ Ended) →
          (IsTrue r ↔ IsEnabled (state_rules s.bundle s.frame) (state_world s) p) →
          IsTrue r ↔ CanStep p now
      told_other r o own =
          subst (λ x. IsTrue r ↔ CanStep p x) same
          (enabled_other v.bundle v.steps v.frames v.stages v.states h p known f read s less found k does r o.0 o.1 own)

    -- A step of p.
    module _ (can : CanStep p now) (s : States) (found : s ≡ get_or v.states f s) (k : Action)
        (does : k ≡ action_at (state_rules s.bundle s.frame) (state_world s) p) where
      could : CanStep p v
      could = subst (CanStep p) (sym same) can

      within : f < v.frames
      within = in_frames v.bundle v.steps v.frames v.stages v.states h p could.actor f read could

      -- at the code's end
      pub end_made : k ≡ Ended →
          (side_by_side (frames_of v.bundle) v.frames (worlds_in v.states) (stages_in (set v.stages p (f + 1)))
          ≡ next (frame_rules now.bundle now.frames) (frame_world now) p)
          × IsFramed v.bundle v.steps v.frames (set v.stages p (f + 1)) v.states
      end_made e =
          let m = ended_step v.bundle v.steps v.frames v.stages v.states h p could.actor f read s within found k does e in (
            m.0 ∙ ap (λ (x : FrameStates). next (frame_rules x.bundle x.frames) (frame_world x) p) same,
            m.1,
          )

      -- and before it, in the machine of its frame, which is read again to be changed
      module _ (before : k ≢ Ended) (t : States) (again : t ≡ get_or v.states f t) where
        does_there : k ≡ action_at (state_rules t.bundle t.frame) (state_world t) p
        does_there =
            subst (λ (x : States). k ≡ action_at (state_rules x.bundle x.frame) (state_world x) p)
            (read_again v.bundle v.steps v.frames v.stages v.states h p could.actor f read s t within found again)
            does

        pub can_there : IsEnabled (state_rules t.bundle t.frame) (state_world t) p
        can_there =
            own_enabled v.bundle v.steps v.frames v.stages v.states h p could.actor f read t within again k
            does_there before could

        pub step_made : (new : States) → new.bundle ≡ t.bundle → new.frame ≡ t.frame →
            state_world new ≡ next (state_rules t.bundle t.frame) (state_world t) p →
            (side_by_side (frames_of v.bundle) v.frames (worlds_in (set v.states f new)) (stages_in v.stages)
            ≡ next (frame_rules now.bundle now.frames) (frame_world now) p)
            × IsFramed v.bundle v.steps v.frames v.stages (set v.states f new)
        step_made new bundle frame step =
            let m = own_step v.bundle v.steps v.frames v.stages v.states h p could.actor f read t within again k
            does_there before could new bundle frame step in (
              m.0 ∙ ap (λ (x : FrameStates). next (frame_rules x.bundle x.frames) (frame_world x) p) same,
              m.1,
            )

  -- What is read of a frame that all have ended.
  module _ (k : ℕ) (passed : HasPassed now k) (s : States) (found : s ≡ get_or v.states k s) where
    was : HasPassed v k
    was = subst (λ x. HasPassed x k) (sym same) passed

    there : slice_get v.states k ≡ Some s
    there = slice_get_read v.states v.frames k s (sym h.count) was.within found

    pub machine_ended : IsEnded (state_rules s.bundle s.frame) (state_world s)
    machine_ended = has_ended v.bundle v.steps v.frames v.stages v.states h k was.within was.each s there

    pub outputs_gained : (lists : List (List ℕ)) → AreOutputs s.bundle (state_world s) lists →
        AreGained now.bundle (frame_world now) k lists
    outputs_gained lists are =
        subst (λ (x : FrameStates). AreGained x.bundle (frame_world x) k lists) same
        (gained_there v.bundle v.steps v.frames v.stages v.states h k was.within was.each s there lists are)

    pub outputs_print : (lists : List (List ℕ)) → AreOutputs s.bundle (state_world s) lists →
        Prints now.bundle k lists
    outputs_print lists are =
        subst (λ (x : FrameStates). Prints x.bundle k lists) same
        (print_there v.bundle v.steps v.frames v.stages v.states h k was.within was.each s there lists are)
