-- Each call of the machines of all frames, seen in the frame net.
use Rattle.std.proofs.Common.{◌≡◌, ◌≢◌, ℕ, zero, suc, ◌<◌, ◌≤◌, ◌↔◌, List, [], ◌∷◌, length, set, slice_get, get_or-set_same, get_or-set_other, length-set, Some, inl, inr, refl, sym, ◌∙◌, ap, subst, arith}
use Rattle.std.proofs.lemmas.Bool.Decides.{eqb_tells}
use Rattle.std.proofs.lemmas.Option.{slice_get_within, same_Some}
use mathlib.Core.Path.{fun_ext}
use Rattle.pyr_net.specs.Net.{Rules, World, IsEnabled, IsPossible, action_at, next, put}
use Rattle.pyr_net.specs.Pipeline.{past_end, side_by_side, IsSeries, IsStaged}
use Rattle.pyr_net.specs.declared.action.Action.TheVariants.{Send, Ended}
use Rattle.pyr_net.proofs.Staged.{on_stage, step_on, next_on, kept_on, on_enabled, end_enabled, next_end, kept_end, ended_behind, moved}
use Rattle.pyr_net.proofs.Update.{EqualOrNot, put_same, put_other}
use Rattle.pyr_num.specs.declared.parcel.Parcel.{Parcel}
use Rattle.pyr_bundle.specs.Parts.{Parts, processor_count}
use Rattle.pyr_machine.specs.Machine.{LocalState, machine, start, instr_at, capacity_of}
use Rattle.pyr_machine.specs.Parcels.{parcels, state_rules}
use Rattle.pyr_machine.specs.Follow.{world_map}
use Rattle.pyr_machine.specs.State.{States, state_world}
use Rattle.pyr_machine.proofs.Following.{action-map, enabled-map, next-map}
use Rattle.pyr_frames.specs.declared.frame_parcel.FrameParcel.{FrameParcel}
use Rattle.pyr_frames.specs.Frames.{FrameWorld, stamped, frame_kind, frames_of, frame_rules}
use Rattle.pyr_frames.specs.FrameState.{frame_of, worlds_in, stages_in, HaveFrames, IsFramed}
use Rattle.pyr_frames.proofs.Frames.{frames_follow, is_series}

-- what stands at each place after a change of one
pub get_set : {A : Type 0} (xs : List A) (i : ℕ) (x : A) → i < length xs →
    slice_get (set xs i x) i ≡ Some x
get_set [] i x l = absurd (omega arith)
get_set (y ∷ xs) zero x l = refl
get_set (y ∷ xs) (suc i) x l = get_set xs i x (omega arith)

pub get_set-other : {A : Type 0} (xs : List A) (i j : ℕ) (x : A) → j ≢ i →
    slice_get (set xs i x) j ≡ slice_get xs j
get_set-other [] i j x o = refl
get_set-other (y ∷ xs) zero zero x o = absurd (o refl)
get_set-other (y ∷ xs) zero (suc j) x o = refl
get_set-other (y ∷ xs) (suc i) zero x o = refl
get_set-other (y ∷ xs) (suc i) (suc j) x o = get_set-other xs i j x (λ e. o (ap suc e))

-- the machine of each frame has that frame's rules
pub rules_are : (b : Parts) (states : List States) (k : ℕ) (s : States) → HaveFrames b states →
    slice_get states k ≡ Some s → state_rules s.bundle s.frame ≡ state_rules b k
rules_are b states k s h e =
    let is = h k s e in
    ap (λ c. state_rules c s.frame) is.0 ∙ ap (state_rules b) is.1

-- what a processor does in the machine of a frame
pub machine_action : (b : Parts) (states : List States) (k : ℕ) (s : States) (p : ℕ) →
    HaveFrames b states → slice_get states k ≡ Some s →
    action_at (machine (frame_kind b k) b) (worlds_in states k) p
    ≡ action_at (state_rules s.bundle s.frame) (state_world s) p
machine_action b states k s p h e =
    ap (λ o. action_at (machine (frame_kind b k) b) (frame_of k o) p) e
    ∙ action-map (parcels b k) (frame_kind b k) (stamped k) (frames_follow b k) b
    (instr_at b p ((state_world s).locals p)) ((state_world s).locals p)
    ∙ ap (λ r. action_at r (state_world s) p) (sym (rules_are b states k s h e))

module _ (b : Parts) (steps n : ℕ) (stages : List ℕ) (states : List States)
    (h : IsFramed b steps n stages states) (p : ℕ) (hp : p < processor_count b) where
  abbrev whole : FrameWorld
  whole = side_by_side (frames_of b) n (worlds_in states) (stages_in stages)

  series : IsSeries (frames_of b) n steps start
  series = is_series b steps n h.is_bundle h.good

  -- an actor behind the last frame has ended
  pub all_done : n ≤ stages_in stages p → action_at (frame_rules b n) whole p ≡ Ended
  all_done l = ended_behind (frames_of b) n (worlds_in states) (stages_in stages) p l

  -- The machine of p's frame.
  module _ (f : ℕ) (s : States) (here : stages_in stages p ≡ f) (found : slice_get states f ≡ Some s)
    where
      abbrev own : Rules (LocalState Parcel) Parcel
      own = state_rules s.bundle s.frame

      less : f < n
      less = let l = slice_get_within states f s found in let c = h.count in omega arith

      same : worlds_in states f ≡ world_map (stamped f) (state_world s)
      same = ap (frame_of f) found

      pub net_action : action_at (machine (frame_kind b f) b) (worlds_in states f) p
          ≡ action_at own (state_world s) p
      net_action = machine_action b states f s p h.machines found

      -- what p does next
      pub whole_action : action_at (frame_rules b n) whole p
          ≡ past_end (action_at own (state_world s) p)
      whole_action =
          on_stage (frames_of b) n steps start series (worlds_in states) (stages_in stages) h.staged p f hp here less
          ∙ ap past_end net_action

      -- whether it can
      net_enabled : IsEnabled own (state_world s) p ↔ IsEnabled (machine (frame_kind b f) b) (worlds_in states f) p
      net_enabled = (
        λ e.
            subst (λ w. IsEnabled (machine (frame_kind b f) b) w p) (sym same)
            ((enabled-map (parcels b f) (frame_kind b f) (stamped f) (frames_follow b f) b (state_world s) p).0
            (subst (λ r. IsEnabled r (state_world s) p) (rules_are b states f s h.machines found) e)),
        λ e.
            subst (λ r. IsEnabled r (state_world s) p) (sym (rules_are b states f s h.machines found))
            ((enabled-map (parcels b f) (frame_kind b f) (stamped f) (frames_follow b f) b (state_world s) p).1
            (subst (λ w. IsEnabled (machine (frame_kind b f) b) w p) same e)),
      )

      -- at its code's end it can always
      pub end_can : action_at own (state_world s) p ≡ Ended → IsEnabled (frame_rules b n) whole p
      end_can e =
          end_enabled (frames_of b) n steps start series (worlds_in states) (stages_in stages) h.staged p f hp here less
          (net_action ∙ e)

      -- but for its end and a send, where the machine of its frame can
      pub can_on : IsEnabled (frame_rules b n) whole p → action_at own (state_world s) p ≢ Ended →
          IsEnabled own (state_world s) p
      can_on e o =
          net_enabled.1
          (step_on (frames_of b) n steps start series (worlds_in states) (stages_in stages) h.staged p f hp here less
          (λ i. o (sym net_action ∙ i)) e)

      pub on_can : IsEnabled own (state_world s) p →
          ((q : ℕ) → action_at own (state_world s) p ≢ Send q) → IsEnabled (frame_rules b n) whole p
      on_can e o =
          on_enabled (frames_of b) n steps start series (worlds_in states) (stages_in stages) h.staged p f hp here less
          (net_enabled.0 e) (λ q i. absurd (o q (sym net_action ∙ i)))

      -- and a send where all frames together leave room
      pub can_send : (to : ℕ) → action_at own (state_world s) p ≡ Send to →
          IsEnabled (frame_rules b n) whole p ↔ (length (whole.lists p to) < capacity_of b p to)
      can_send to e = (
        λ i. subst (IsPossible (frame_rules b n) whole p) k i.possible,
        λ i. record { actor = hp; possible = subst (IsPossible (frame_rules b n) whole p) (sym k) i },
      )
        where
          k : action_at (frame_rules b n) whole p ≡ Send to
          k = whole_action ∙ ap past_end e

      -- The step at the code's end.
      moves : stages_in (set stages p (suc f))
          ≡ moved (frames_of b) n steps start series (worlds_in states) (stages_in stages) h.staged p f hp here less
      moves = fun_ext (λ a. at a (eqb_tells a p))
        where
          l : p < length stages
          l = rw h.places hp

          at : (a : ℕ) → EqualOrNot a p →
              stages_in (set stages p (suc f)) a ≡ put (stages_in stages) p (suc f) a
          at a (inl m) =
              subst (λ c. stages_in (set stages p (suc f)) c ≡ put (stages_in stages) p (suc f) c)
              (sym m.1) (get_or-set_same stages p (suc f) 0 l ∙ sym (put_same (stages_in stages) p (suc f)))
          at a (inr m) =
              get_or-set_other stages p a (suc f) 0 m.1 ∙ sym (put_other (stages_in stages) p (suc f) a m.1)

      pub end_step : action_at own (state_world s) p ≡ Ended →
          (side_by_side (frames_of b) n (worlds_in states) (stages_in (set stages p (suc f)))
          ≡ next (frame_rules b n) whole p)
          × IsFramed b steps n (set stages p (suc f)) states
      end_step e = (
        ap (side_by_side (frames_of b) n (worlds_in states)) moves
            ∙ sym (next_end (frames_of b) n steps start series (worlds_in states) (stages_in stages) h.staged p f hp here less
            (net_action ∙ e)),
        record {
          is_bundle = h.is_bundle;
          good = h.good;
          places = length-set stages p (suc f) ∙ h.places;
          count = h.count;
          machines = h.machines;
          staged =
              subst (IsStaged (frames_of b) n start (worlds_in states)) (sym moves)
              (kept_end (frames_of b) n steps start series (worlds_in states) (stages_in stages) h.staged p f hp here less
              (net_action ∙ e));
        },
      )

      -- Every other step, after which the machine of p's frame is another.
      module _ (e : IsEnabled own (state_world s) p) (s' : States)
          (bundle : s'.bundle ≡ s.bundle) (frame : s'.frame ≡ s.frame) (step : state_world s' ≡ next own (state_world s) p)
        where
          stepped : worlds_in (set states f s')
              ≡ put (worlds_in states) f (next (machine (frame_kind b f) b) (worlds_in states f) p)
          stepped = fun_ext (λ k. at k (eqb_tells k f))
            where
              l : f < length states
              l = slice_get_within states f s found

              new : World (LocalState FrameParcel) FrameParcel
              new = next (machine (frame_kind b f) b) (worlds_in states f) p

              here_is : world_map (stamped f) (state_world s') ≡ next (machine (frame_kind b f) b) (worlds_in states f) p
              here_is =
                  ap (world_map (stamped f)) (step ∙ ap (λ r. next r (state_world s) p) (rules_are b states f s h.machines found))
                  ∙ next-map (parcels b f) (frame_kind b f) (stamped f) (frames_follow b f) b (state_world s) p
                  ∙ ap (λ w. next (machine (frame_kind b f) b) w p) (sym same)

              at : (k : ℕ) → EqualOrNot k f →
                  worlds_in (set states f s') k
                  ≡ put (worlds_in states) f (next (machine (frame_kind b f) b) (worlds_in states f) p) k
              at k (inl m) =
                  subst (λ c. worlds_in (set states f s') c
                  ≡ put (worlds_in states) f (next (machine (frame_kind b f) b) (worlds_in states f) p) c)
                  (sym m.1)
                  (ap (frame_of f) (get_set states f s' l) ∙ here_is ∙ sym (put_same (worlds_in states) f _))
              at k (inr m) =
                  ap (frame_of k) (get_set-other states f k s' m.1)
                  ∙ sym (put_other (worlds_in states) f _ k m.1)

          machines_kept : (k : ℕ) (t : States) → slice_get (set states f s') k ≡ Some t →
              (t.bundle ≡ b) × (t.frame ≡ k)
          machines_kept k t g = at (eqb_tells k f)
            where
              l : f < length states
              l = slice_get_within states f s found

              at : EqualOrNot k f → (t.bundle ≡ b) × (t.frame ≡ k)
              at (inl m) =
                  let is : s' ≡ t =
                  same_Some _ _ (sym (get_set states f s' l) ∙ ap (slice_get (set states f s')) (sym m.1) ∙ g) in
                  let was = h.machines f s found in (
                    ap (λ (u : States). u.bundle) (sym is) ∙ bundle ∙ was.0,
                    ap (λ (u : States). u.frame) (sym is) ∙ frame ∙ was.1 ∙ sym m.1,
                  )
              at (inr m) = h.machines k t (sym (get_set-other states f k s' m.1) ∙ g)

          pub other_step :
              (side_by_side (frames_of b) n (worlds_in (set states f s')) (stages_in stages)
              ≡ next (frame_rules b n) whole p)
              × IsFramed b steps n stages (set states f s')
          other_step = (
            ap (λ ws. side_by_side (frames_of b) n ws (stages_in stages)) stepped
                ∙ sym (next_on (frames_of b) n steps start series (worlds_in states) (stages_in stages) h.staged p f hp here less
                (net_enabled.0 e)),
            record {
              is_bundle = h.is_bundle;
              good = h.good;
              places = h.places;
              count = length-set states f s' ∙ h.count;
              machines = machines_kept;
              staged =
                  subst (λ ws. IsStaged (frames_of b) n start ws (stages_in stages)) (sym stepped)
                  (kept_on (frames_of b) n steps start series (worlds_in states) (stages_in stages) h.staged p f hp here less
                  (net_enabled.0 e));
            },
          )
