-- The machines of a good bundle, one for each frame, can be run one after another.
use Rattle.std.proofs.Common.{◌≡◌, ℕ, ◌<◌, List, [], ◌∷◌, map, refl, sym, ◌∙◌, ap, subst}
use Rattle.pyr_num.specs.declared.parcel.Parcel.{Parcel}
use Rattle.pyr_net.specs.Net.{World, action_at}
use Rattle.pyr_net.specs.Run.{end_of}
use Rattle.pyr_net.specs.Pipeline.{IsSeries}
use Rattle.pyr_bundle.specs.Parts.{Parts, IsBundle, processor_count}
use Rattle.pyr_bundle.specs.declared.instr.Instr.TheVariants.{Recv, Send}
use Rattle.pyr_bundle.proofs.WellFormedLemmas.{well_formed}
use Rattle.pyr_machine.specs.Machine.{LocalState, machine, start, instr_at}
use Rattle.pyr_machine.specs.Parcels.{parcels, state_rules}
use Rattle.pyr_machine.specs.Good.{IsDone, IsGood, HasCompleteRun}
use Rattle.pyr_machine.specs.Follow.{Follows, world_map, RunsAlike}
use Rattle.pyr_machine.proofs.Demand.{send_instr, take_instr}
use Rattle.pyr_machine.proofs.Following.{alike, action-map}
use Rattle.pyr_machine.proofs.Words.{complete_alike}
use Rattle.pyr_frames.specs.Frames.{stamped, bare, frame_kind, frames_of}

pub bare-stamped : (k : ℕ) (xs : List Parcel) → map bare (map (stamped k) xs) ≡ xs
bare-stamped k [] = refl
bare-stamped k (x ∷ xs) = ap (λ (ys : List Parcel). x ∷ ys) (bare-stamped k xs)

-- the machine of frame k is the machine with words, with the frame at each parcel
pub frames_follow : (b : Parts) (k : ℕ) → Follows (parcels b k) (frame_kind b k) (stamped k)
frames_follow b k = record {
  tag = λ x. refl;
  pick = λ d xs.
      ap (λ (ys : List Parcel). stamped k ((parcels b k).pick d ys)) (sym (bare-stamped k xs));
  made = λ t xs.
      ap (λ (ys : List Parcel). map (stamped k) ((parcels b k).made t ys)) (sym (bare-stamped k xs));
}

pub frames_alike : (b : Parts) (k : ℕ) (run : List ℕ) →
    RunsAlike b (parcels b k) (frame_kind b k) (stamped k) run
frames_alike b k run = alike b (parcels b k) (frame_kind b k) (stamped k) run (frames_follow b k)

-- a state with words is done where it is done with frames
done_frame : (b : Parts) (k : ℕ) (w : World (LocalState Parcel) Parcel) →
    IsDone (parcels b k) b w → IsDone (frame_kind b k) b (world_map (stamped k) w)
done_frame b k w h = record {
  complete = record {
    ended = λ p l. same p ∙ h.complete.ended p l;
    empty = λ p q l m. ap (map (stamped k)) (h.complete.empty p q l m);
  };
  stashes = λ p l. ap (map (stamped k)) (h.stashes p l);
}
  where
    same : (p : ℕ) →
        action_at (machine (frame_kind b k) b) (world_map (stamped k) w) p
        ≡ action_at (state_rules b k) w p
    same p =
        action-map (parcels b k) (frame_kind b k) (stamped k) (frames_follow b k) b
        (instr_at b p (w.locals p)) (w.locals p)

-- the complete run of a good bundle, in frame k
pub frame_run : (b : Parts) (steps k : ℕ) → IsGood b steps → HasCompleteRun (frame_kind b k) b steps
frame_run b steps k good =
    let g = (complete_alike b k steps).1 good in
    let a = frames_alike b k g.run in
    record {
      run = g.run;
      is_run = a.runs.0 g.is_run;
      count = g.count;
      done =
          subst (IsDone (frame_kind b k) b) (sym (a.ends g.is_run))
          (done_frame b k (end_of (state_rules b k) start g.run) g.done);
    }

pub is_series : (b : Parts) (steps n : ℕ) → IsBundle b → IsGood b steps →
    IsSeries (frames_of b) n steps start
is_series b steps n is good = record {
  actors = λ k. refl;
  capacity = λ k. refl;
  empty = λ p q. refl;
  sends = λ k p to l e.
      let (q, d, i, same) = send_instr (frame_kind b k) b (instr_at b p l) l to e in
      subst (λ m. m < processor_count b) same ((well_formed b is).instrs p l.place (Send q d) i).0.0;
  takes = λ k p from l e.
      let (q, d, i, same) = take_instr (frame_kind b k) b (instr_at b p l) l from e in
      subst (λ m. m < processor_count b) same ((well_formed b is).instrs p l.place (Recv q d) i).0.0;
  runs = λ k _.
      let g = frame_run b steps k good in
      record {
        run = g.run;
        complete = record { is_run = g.is_run; complete = g.done.complete };
        count = g.count;
      };
  renews = λ k p _ hp.
      λ i. record { place = 0; store = []; stash = (frame_run b steps k good).done.stashes p hp i };
}
