-- Every interleaving of a good bundle over several frames.
use Rattle.std.proofs.Common.{◌≡◌, ◌≢◌, ℕ, zero, suc, ◌<◌, ◌≤◌, true, List, [], ◌∷◌, ◌++◌, length, map, slice_get, Some, None, ◌⊎◌, inl, inr, refl, sym, ◌∙◌, ap, subst, arith}
use Rattle.std.specs.Prelude.{All}
use Rattle.std.proofs.lemmas.List.Elements.{All-nil, All-cons, All-append, All-weaker}
use Rattle.std.proofs.lemmas.List.{length-map}
use Rattle.std.proofs.lemmas.Option.{same_Some}
use Rattle.pyr_num.specs.declared.ids.DatumId.{DatumId}
use Rattle.pyr_num.specs.declared.lists.Outputs.{Outputs}
use Rattle.pyr_num.specs.declared.parcel.Parcel.{Parcel}
use Rattle.pyr_net.specs.Net.{World, IsEnabled, IsPossible, action_at}
use Rattle.pyr_net.specs.Run.{IsRun, end_of, IsEnded, IsComplete}
use Rattle.pyr_net.specs.Pipeline.{joined, gains, side_by_side, IsSeries, IsStaged, IsSideBySide, GoesThrough}
use Rattle.pyr_net.specs.declared.action.Action.TheVariants.{Take, Ended}
use Rattle.pyr_net.proofs.Completing.{unended_goes_on, is_bounded, ended_alike}
use Rattle.pyr_net.proofs.Occupied.{run_fits}
use Rattle.pyr_net.proofs.Exchange.{completes}
use Rattle.pyr_net.proofs.PipelineRun.{goes_through}
use Rattle.pyr_net.proofs.Staged.{compare, front, possible_on, never_ended, takes_on, gains-at, ended_behind}
use Rattle.pyr_seq.specs.Sequential.{value_of}
use Rattle.pyr_bundle.specs.Parts.{Parts, IsBundle, processor_count, code_at, task_id}
use Rattle.pyr_bundle.specs.Values.{IsOrderOf, tasks_of, printed}
use Rattle.pyr_bundle.specs.declared.instr.Instr.TheVariants.{Exec}
use Rattle.pyr_bundle.proofs.WellFormedLemmas.{well_formed}
use Rattle.pyr_machine.specs.Machine.{LocalState, machine, start, instr_at, holds}
use Rattle.pyr_machine.specs.Parcels.{state_rules, parcel_tag, parcel_of, words_in}
use Rattle.pyr_machine.specs.Good.{IsGood}
use Rattle.pyr_machine.specs.Follow.{world_map}
use Rattle.pyr_machine.specs.State.{numbers}
use Rattle.pyr_machine.specs.Values.{AllRight}
use Rattle.pyr_machine.proofs.Executed.{run_holds}
use Rattle.pyr_machine.proofs.Ordered.{has_order}
use Rattle.pyr_machine.proofs.Output.{ended_none, ended_past}
use Rattle.pyr_machine.proofs.Sound.{words_valued, words_right}
use Rattle.pyr_frames.specs.declared.frame_parcel.FrameParcel.{FrameParcel}
use Rattle.pyr_frames.specs.Frames.{FrameWorld, stamped, bare, frame_kind, executes_writer, own_outputs, own_lists, frames_of, frame_rules, frame_start, IsFrameDone, AreGained}
use Rattle.pyr_frames.specs.Safe.{IsFrameRun, frame_end, IsFrameEnd, IsValueIn, HoldValues, AreSafe}
use Rattle.pyr_frames.proofs.Frames.{bare-stamped, frames_alike, is_series}
use Rattle.pyr_frames.proofs.Gained.{has_writer, own_is, all_written, own-same}

-- right parcels of a frame, with the frame
right_in : (b : Parts) (order : List ℕ) (k : ℕ) (xs : List Parcel) →
    AllRight parcel_tag (parcel_of b k order) xs →
    All (IsValueIn b order k) (map (stamped k) xs)
right_in b order k [] h = All-nil (IsValueIn b order k)
right_in b order k (x ∷ xs) h =
    All-cons (IsValueIn b order k) (stamped k x) (map (stamped k) xs) (ap (stamped k) h.0)
    (right_in b order k xs h.1)

-- what holds of each of some lists holds of them joined
All-joined : {A : Type 0} (F : A → Type 0) (n : ℕ) (f : ℕ → List A) →
    ((k : ℕ) → k < n → All F (f k)) → All F (joined n f)
All-joined F zero f h = All-nil F
All-joined F (suc n) f h =
    All-append F (joined n f) (f n) (All-joined F n f (λ k l. h k (omega arith))) (h n (omega arith))

module _ (b : Parts) (steps n : ℕ) (is : IsBundle b) (good : IsGood b steps) where
  abbrev side : (ℕ → World (LocalState FrameParcel) FrameParcel) → (ℕ → ℕ) → FrameWorld
  side worlds stages = side_by_side (frames_of b) n worlds stages

  abbrev Parts_of : (ℕ → World (LocalState FrameParcel) FrameParcel) → (ℕ → ℕ) → Type 0
  Parts_of worlds stages = IsStaged (frames_of b) n start worlds stages

  series : IsSeries (frames_of b) n steps start
  series = is_series b steps n is good

  turn : GoesThrough (frames_of b) n steps start
  turn = goes_through (frames_of b) n steps start series

  -- a frame stands where a run of its machine with words leads
  pub record FrameAt (k : ℕ) (v : World (LocalState FrameParcel) FrameParcel) : Type 0 where
    pub run : List ℕ
    pub is_run : IsRun (state_rules b k) start run
    pub ends : v ≡ world_map (stamped k) (end_of (state_rules b k) start run)

  pub frame_at : (worlds : ℕ → World (LocalState FrameParcel) FrameParcel) (stages : ℕ → ℕ) (k : ℕ) →
      Parts_of worlds stages → k < n → FrameAt k (worlds k)
  frame_at worlds stages k st less =
      let h = st.reached k less in
      let a = frames_alike b k h.run in
      let r = a.runs.1 h.is_run in
      record { run = h.run; is_run = r; ends = sym h.ends ∙ a.ends r }

  -- where all have ended, all have passed all frames
  all_behind : (worlds : ℕ → World (LocalState FrameParcel) FrameParcel) (stages : ℕ → ℕ) →
      Parts_of worlds stages → IsEnded (frame_rules b n) (side worlds stages) →
      (p : ℕ) → p < processor_count b → stages p ≡ n
  all_behind worlds stages st ended p hp = at (compare (stages p) n)
    where
      at : (stages p < n) ⊎ ((stages p ≡ n) ⊎ (n < stages p)) → stages p ≡ n
      at (inl l) =
          absurd (never_ended (frames_of b) n steps start series worlds stages st p (stages p) hp refl l
          (ended p hp))
      at (inr (inl e)) = e
      at (inr (inr l)) = let m = st.within p hp in absurd (omega arith)

  done : (run : List ℕ) → IsFrameRun b n run → IsFrameEnd b n run →
      IsFrameDone b n (frame_end b n run)
  done run r ended = record {
    complete =
        subst (IsComplete (frame_rules b n))
        (sym (ended_alike (frame_rules b n) frame_start turn.run turn.complete run r ended).1)
        turn.complete.complete;
    stashes = λ p hp.
        let s = turn.parts run r in
        let e = all_behind s.worlds s.stages s.staged
        (subst (IsEnded (frame_rules b n)) s.same ended) p hp in
        ap (λ (v : FrameWorld). (v.locals p).local.stash) s.same
        ∙ ap (λ m. ((s.worlds m).locals p).stash) e
        ∙ ap (λ (v : World (LocalState FrameParcel) FrameParcel). (v.locals p).stash)
        (s.staged.unbegun n (omega arith));
  }

  in_frame : (run : List ℕ) (p from : ℕ) (x : FrameParcel) (xs : List FrameParcel) →
      IsFrameRun b n run → IsEnabled (frame_rules b n) (frame_end b n run) p →
      action_at (frame_rules b n) (frame_end b n run) p ≡ Take from →
      (frame_end b n run).lists from p ≡ x ∷ xs →
      x.frame ≡ ((frame_end b n run).locals p).stage
  in_frame run p from x xs r e takes front_is =
      at s.same e takes front_is (compare (s.stages p) n)
    where
      s : IsSideBySide (frames_of b) n start (frame_end b n run)
      s = turn.parts run r

      f : ℕ
      f = s.stages p

      -- a list of frame f begins with a parcel of frame f
      of_frame : (ys : List Parcel) (rest : List FrameParcel) → 0 < length (map (stamped f) ys) →
          x ∷ xs ≡ map (stamped f) ys ++ rest → x.frame ≡ f
      of_frame [] rest l i = absurd (omega arith)
      of_frame (y ∷ ys) rest l i = let same : x ≡ stamped f y = cc in ap (λ (z : FrameParcel). z.frame) same

      here : f < n → IsEnabled (frame_rules b n) (side s.worlds s.stages) p →
          action_at (frame_rules b n) (side s.worlds s.stages) p ≡ Take from →
          (side s.worlds s.stages).lists from p ≡ x ∷ xs → x.frame ≡ f
      here less e takes i =
          of_frame ((end_of (state_rules b f) start v.run).lists from p) t.0 some
          (sym i
          ∙ t.1 (λ k. (s.worlds k).lists from p) (λ k _. refl)
          ∙ ap (λ (w : World (LocalState FrameParcel) FrameParcel). w.lists from p ++ t.0) v.ends)
        where
          k : action_at (machine (frame_kind b f) b) (s.worlds f) p ≡ Take from
          k = takes_on (frames_of b) n steps start series s.worlds s.stages s.staged p f e.actor refl less from takes

          t : (rest : List FrameParcel)
              × ((g : ℕ → List FrameParcel) → ((j : ℕ) → j ≢ f → g j ≡ (s.worlds j).lists from p) →
              joined n g ≡ g f ++ rest)
          t =
              front (frames_of b) n steps start series s.worlds s.stages s.staged p f e.actor refl less
              from (series.takes f p from ((s.worlds f).locals p) k)

          v : FrameAt f (s.worlds f)
          v = frame_at s.worlds s.stages f s.staged less

          some : 0 < length (map (stamped f) ((end_of (state_rules b f) start v.run).lists from p))
          some =
              subst (λ (w : World (LocalState FrameParcel) FrameParcel). 0 < length (w.lists from p)) v.ends
              (possible_on (frames_of b) n steps start series s.worlds s.stages s.staged p f e.actor refl
              less (Take from) k (λ (j : Take from ≡ Ended). cc)
              (subst (IsPossible (frame_rules b n) (side s.worlds s.stages) p) takes e.possible))

      at : {z : FrameWorld} → z ≡ side s.worlds s.stages → IsEnabled (frame_rules b n) z p →
          action_at (frame_rules b n) z p ≡ Take from → z.lists from p ≡ x ∷ xs →
          (f < n) ⊎ ((f ≡ n) ⊎ (n < f)) → x.frame ≡ (z.locals p).stage
      at {z} same e takes i (inl l) =
          here l (subst (λ y. IsEnabled (frame_rules b n) y p) same e)
          (subst (λ y. action_at (frame_rules b n) y p ≡ Take from) same takes)
          (subst (λ (y : FrameWorld). y.lists from p ≡ x ∷ xs) same i)
          ∙ sym (ap (λ (y : FrameWorld). (y.locals p).stage) same)
      at {z} same e takes i (inr m) =
          let k : action_at (frame_rules b n) (side s.worlds s.stages) p ≡ Ended =
          ended_behind (frames_of b) n s.worlds s.stages p (beyond m) in
          let k' : action_at (frame_rules b n) (side s.worlds s.stages) p ≡ Take from =
          subst (λ y. action_at (frame_rules b n) y p ≡ Take from) same takes in
          let no : Take from ≡ Ended = sym k' ∙ k in
          absurd (cc)
        where
          beyond : (f ≡ n) ⊎ (n < f) → n ≤ f
          beyond (inl e) = omega arith
          beyond (inr l) = omega arith

  values_side : (worlds : ℕ → World (LocalState FrameParcel) FrameParcel) (stages : ℕ → ℕ)
      (order : List ℕ) → Parts_of worlds stages → ((k : ℕ) → IsOrderOf b k order) →
      HoldValues b order (side worlds stages)
  values_side worlds stages order st top = record {
    stores = λ p hp. held_store p (stages p) (compare (stages p) n);
    stashes = λ p hp. held_stash p (stages p) (compare (stages p) n);
    lists = λ p q.
        All-joined (λ x. IsValueIn b order x.frame x) n (λ k. (worlds k).lists p q)
        (λ k l. listed p q k l);
  }
    where
      after : (k : ℕ) → (k ≡ n) ⊎ (n < k) → worlds k ≡ start
      after k (inl e) = st.unbegun k (omega arith)
      after k (inr l) = st.unbegun k (omega arith)

      held_store : (p k : ℕ) → (k < n) ⊎ ((k ≡ n) ⊎ (n < k)) →
          All (IsValueIn b order k) ((worlds k).locals p).store
      held_store p k (inl l) =
          let v = frame_at worlds stages k st l in
          subst (λ (w : World (LocalState FrameParcel) FrameParcel). All (IsValueIn b order k) (w.locals p).store) (sym v.ends)
          (right_in b order k _ ((words_valued b k order v.run is (top k) v.is_run).stores p))
      held_store p k (inr m) =
          subst (λ (w : World (LocalState FrameParcel) FrameParcel). All (IsValueIn b order k) (w.locals p).store) (sym (after k m))
          (All-nil (IsValueIn b order k))

      held_stash : (p k : ℕ) → (k < n) ⊎ ((k ≡ n) ⊎ (n < k)) →
          All (IsValueIn b order k) ((worlds k).locals p).stash
      held_stash p k (inl l) =
          let v = frame_at worlds stages k st l in
          subst (λ (w : World (LocalState FrameParcel) FrameParcel). All (IsValueIn b order k) (w.locals p).stash) (sym v.ends)
          (right_in b order k _ ((words_valued b k order v.run is (top k) v.is_run).stashes p))
      held_stash p k (inr m) =
          subst (λ (w : World (LocalState FrameParcel) FrameParcel). All (IsValueIn b order k) (w.locals p).stash) (sym (after k m))
          (All-nil (IsValueIn b order k))

      own_frame : (k : ℕ) (x : FrameParcel) → IsValueIn b order k x → IsValueIn b order x.frame x
      own_frame k x e =
          subst (λ j. IsValueIn b order j x) (sym (ap (λ (y : FrameParcel). y.frame) e)) e

      listed : (p q k : ℕ) → k < n → All (λ x. IsValueIn b order x.frame x) ((worlds k).lists p q)
      listed p q k l =
          let v = frame_at worlds stages k st l in
          All-weaker (IsValueIn b order k) (λ x. IsValueIn b order x.frame x) (own_frame k)
          ((worlds k).lists p q)
          (subst (λ (w : World (LocalState FrameParcel) FrameParcel). All (IsValueIn b order k) (w.lists p q)) (sym v.ends)
          (right_in b order k _ ((words_valued b k order v.run is (top k) v.is_run).lists p q)))

  values : (run order : List ℕ) → IsFrameRun b n run → ((k : ℕ) → IsOrderOf b k order) →
      HoldValues b order (frame_end b n run)
  values run order r top =
      let s = turn.parts run r in
      subst (HoldValues b order) (sym s.same) (values_side s.worlds s.stages order s.staged top)

  -- what a processor that has ended frame k holds of what it executed there
  right_words : (k : ℕ) (order run : List ℕ) (p : ℕ) → IsRun (state_rules b k) start run →
      IsOrderOf b k order →
      slice_get (code_at b p) ((end_of (state_rules b k) start run).locals p).place ≡ None →
      (d : ℕ) → executes_writer b p d ≡ true →
      words_in d ((end_of (state_rules b k) start run).locals p).store
      ≡ value_of (tasks_of b k) order d
  right_words k order run p r top none d e =
      words_right b k order d (w.locals p).store ((words_valued b k order run is top r).stores p) there
    where
      w : World (LocalState Parcel) Parcel
      w = end_of (state_rules b k) start run

      there : holds parcel_tag d (w.locals p).store ≡ true
      there =
          let x = has_writer b p d e in
          let past = ended_past (code_at b p) (w.locals p).place x.place (Exec (task_id x.task)) none x.stands in
          let exists = (well_formed b is).instrs p x.place (Exec (task_id x.task)) x.stands in
          run_holds b k run r p x.place x.task d past x.stands (exists, x.writes)

  -- what was gained of a frame that all have passed
  pub gained_side : (worlds : ℕ → World (LocalState FrameParcel) FrameParcel) (stages : ℕ → ℕ)
      (order : List ℕ) (k : ℕ) → Parts_of worlds stages →
      ((p : ℕ) → p < processor_count b → k < stages p) → k < n → IsOrderOf b k order →
      AreGained b (side worlds stages) k (printed b k order)
  gained_side worlds stages order k st passed less top = record {
    count = length-map (numbers b.prints) (value_of (tasks_of b k) order) ∙ length-map b.prints (λ (d : DatumId). d.0);
    each = each;
  }
    where
      v : FrameAt k (worlds k)
      v = frame_at worlds stages k st less

      z : World (LocalState Parcel) Parcel
      z = end_of (state_rules b k) start v.run

      kept : (p : ℕ) → p < processor_count b →
          own_outputs b p (map bare ((worlds k).locals p).store)
          ≡ record { lists = own_lists b p b.prints (printed b k order) }
      kept p hp =
          ap (λ (w : World (LocalState FrameParcel) FrameParcel). own_outputs b p (map bare (w.locals p).store)) v.ends
          ∙ ap (own_outputs b p) (bare-stamped k (z.locals p).store)
          ∙ (λ i. record { lists = own_is b k order p (z.locals p).store (right_words k order v.run p v.is_run top none) b.prints i })
        where
          ended : action_at (machine (frame_kind b k) b) (world_map (stamped k) z) p ≡ Ended
          ended =
              subst (λ w. action_at (machine (frame_kind b k) b) w p ≡ Ended) v.ends
              (st.passed p k hp (passed p hp))

          none : slice_get (code_at b p) (z.locals p).place ≡ None
          none =
              ended_none (frame_kind b k) b (instr_at b p ((world_map (stamped k) z).locals p))
              ((world_map (stamped k) z).locals p) ended

      each : (p : ℕ) → p < processor_count b →
          slice_get (gains (frames_of b) worlds p (stages p)) k
          ≡ Some (record { lists = own_lists b p b.prints (printed b k order) })
      each p hp =
          gains-at (frames_of b) worlds p (stages p) k (passed p hp)
          ∙ ap Some (kept p hp)

  gained : (run order : List ℕ) (k : ℕ) → IsFrameRun b n run → IsFrameEnd b n run → k < n →
      IsOrderOf b k order → AreGained b (frame_end b n run) k (printed b k order)
  gained run order k r ended less top =
      let s = turn.parts run r in
      let all = all_behind s.worlds s.stages s.staged (subst (IsEnded (frame_rules b n)) s.same ended) in
      subst (λ w. AreGained b w k (printed b k order)) (sym s.same)
      (gained_side s.worlds s.stages order k s.staged (λ p hp. rw (all p hp) less) less top)

  no_others : (run order : List ℕ) (k : ℕ) (lists : List (List ℕ)) → IsFrameRun b n run →
      IsFrameEnd b n run → k < n → IsOrderOf b k order →
      AreGained b (frame_end b n run) k lists → lists ≡ printed b k order
  no_others run order k lists r ended less top h =
      let g = gained run order k r ended less top in
      own-same b b.prints lists (printed b k order) (all_written b is) h.count g.count
      (λ p hp. ap (λ (o : Outputs). o.lists) (same_Some _ _ (sym (h.each p hp) ∙ g.each p hp)))

-- a good bundle is safe over any number of frames
pub safe : (b : Parts) (steps n : ℕ) → IsBundle b → IsGood b steps → AreSafe b steps n
safe b steps n is good = record {
  completes = λ run r.
      let c = completes (frame_rules b n) frame_start t.run run t.complete r in
      record {
        rest = c.rest;
        is_run = c.complete.is_run;
        steps = c.steps ∙ t.count;
        done = done b steps n is good (run ++ c.rest) c.complete.is_run c.complete.complete.ended;
      };
  goes_on = λ run r u. unended_goes_on (frame_rules b n) frame_start t.run t.complete run r u;
  bounded = λ run r.
      let l = is_bounded (frame_rules b n) frame_start t.run t.complete run r in
      subst (λ c. length run ≤ c) t.count l;
  fits = λ run r. run_fits (frame_rules b n) frame_start run r (λ p q. omega arith);
  steps_are = λ run r e.
      (ended_alike (frame_rules b n) frame_start t.run t.complete run r e).0 ∙ t.count;
  done = done b steps n is good;
  alike = λ run other r o e f.
      (ended_alike (frame_rules b n) frame_start t.run t.complete run r e).1
      ∙ sym (ended_alike (frame_rules b n) frame_start t.run t.complete other o f).1;
  in_frame = in_frame b steps n is good;
  order = let o = has_order b steps 0 is good in (o.0, λ k. o.1);
  values = values b steps n is good;
  gained = gained b steps n is good;
  no_others = no_others b steps n is good;
  finishes = (t.run, t.complete.is_run, t.complete.complete.ended);
}
  where
    t : GoesThrough (frames_of b) n steps start
    t = goes_through (frames_of b) n steps start (is_series b steps n is good)
