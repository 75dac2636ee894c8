-- The lemmas of each step of the machines of all frames, as the code meets them.
use Rattle.std.proofs.Common.{◌≡◌, ◌≢◌, ℕ, zero, suc, ◌+◌, ◌<◌, ◌≤◌, ◌↔◌, Bool, List, [], ◌∷◌, ◌++◌, length, length-append, add-one, set, slice_get, get_or, replicate, nat_lt, IsTrue, Option, Some, None, ◌⊎◌, inl, inr, refl, sym, ◌∙◌, ap, subst, arith, ltb-true, lt-ltb}
use Rattle.std.proofs.lemmas.List.{length-map, length-replicate, get_or-replicate, get_or_past}
use Rattle.std.proofs.lemmas.Option.{slice_get_read, get_or_from_slice_get, same_Some, none-some}
use Rattle.std.proofs.lemmas.Bool.Decides.{eqb_tells}
use mathlib.Core.Path.{fun_ext}
use Rattle.pyr_net.specs.Net.{IsEnabled, IsPossible, action_at, next}
use Rattle.pyr_net.specs.Pipeline.{past_end, side_by_side, joined, IsStaged}
use Rattle.pyr_net.specs.declared.action.Action.{Action}
use Rattle.pyr_net.specs.declared.action.Action.TheVariants.{Internal, Send, Take, Ended, Lacks}
use Rattle.pyr_net.proofs.Staged.{start_same, start_staged}
use Rattle.pyr_net.proofs.Update.{EqualOrNot}
use Rattle.pyr_num.specs.declared.lists.Outputs.{Outputs}
use Rattle.pyr_bundle.specs.Parts.{Parts, IsBundle, processor_count}
use Rattle.pyr_machine.specs.Machine.{start, capacity_of}
use Rattle.pyr_machine.specs.Parcels.{state_rules}
use Rattle.pyr_machine.specs.Good.{IsGood, Prints}
use Rattle.pyr_machine.specs.Follow.{world_map}
use Rattle.pyr_machine.specs.State.{States, state_world}
use Rattle.pyr_frames.specs.Frames.{FrameWorld, stamped, frames_of, frame_rules, frame_start}
use Rattle.pyr_frames.specs.FrameState.{frame_of, worlds_in, stages_in, HaveFrames, HaveProcessors, AreFresh, way_len, IsFramed, PrintFrames}
use Rattle.pyr_frames.proofs.Frames.{is_series}
use Rattle.pyr_frames.proofs.FrameSteps.{all_done, net_action, whole_action, end_can, can_on, on_can, can_send, end_step, other_step}

-- one frame more of what is on the way
pub way_more : (states : List States) (p q k : ℕ) (s : States) → slice_get states k ≡ Some s →
    way_len states p q (k + 1) ≡ way_len states p q k + length ((state_world s).lists p q)
way_more states p q k s e =
    let here : length ((worlds_in states k).lists p q) ≡ length ((state_world s).lists p q) =
    ap (λ (o : Option States). length ((frame_of k o).lists p q)) e
    ∙ length-map ((state_world s).lists p q) (stamped k) in
    rw add-one
    (length-append (joined k (λ j. (worlds_in states j).lists p q)) ((worlds_in states k).lists p q)
    ∙ ap (λ m. way_len states p q k + m) here)

-- the machine of each frame has as many processors as the bundle
pub have_processors : (b : Parts) (states : List States) (p : ℕ) → HaveFrames b states →
    p < processor_count b → HaveProcessors p states
have_processors b states p h hp = λ k s e.
    subst (λ c. p < processor_count c) (sym (h k s e).0) hp

-- what isn't an end stays as it is
pub same_past : (k : Action) → k ≢ Ended → past_end k ≡ k
same_past Internal o = refl
same_past (Send to) o = refl
same_past (Take from) o = refl
same_past Ended o = absurd (o refl)
same_past Lacks o = refl

-- neither an end nor a send
pub is_other : (k : Action) →
    (k ≡ Internal) ⊎ (((from : ℕ) × (k ≡ Take from)) ⊎ (k ≡ Lacks)) →
    ((to : ℕ) → k ≢ Send to) × (k ≢ Ended)
is_other k (inl e) = (λ to s. cc, λ s. cc)
is_other k (inr (inl e)) = let i = e.1 in (λ to s. cc, λ s. cc)
is_other k (inr (inr e)) = (λ to s. cc, λ s. cc)

-- What is read of a state.
module _ (b : Parts) (steps n : ℕ) (stages : List ℕ) (states : List States)
    (h : IsFramed b steps n stages states) (p : ℕ) (hp : p < processor_count b) (f : ℕ)
    (read : f ≡ get_or stages p f) where
  abbrev whole : FrameWorld
  whole = side_by_side (frames_of b) n (worlds_in states) (stages_in stages)

  pub here : stages_in stages p ≡ f
  here =
      get_or_from_slice_get stages p f 0
      (slice_get_read stages (processor_count b) p f (sym h.places) hp read)

  -- where it can make a step, a processor is in a frame
  pub in_frames : IsEnabled (frame_rules b n) whole p → f < n
  in_frames e = at (low_or_high n f)
    where
      low_or_high : (n f : ℕ) → (n ≤ f) ⊎ (f < n)
      low_or_high n f = grind arith

      at : (n ≤ f) ⊎ (f < n) → f < n
      at (inl l) =
          absurd (stopped (action_at (frame_rules b n) whole p)
          (all_done b steps n stages states h p hp (rw here l)) e.possible)
        where
          stopped : (k : Action) → k ≡ Ended → IsPossible (frame_rules b n) whole p k → ⊥
          stopped k i q = subst (IsPossible (frame_rules b n) whole p) i q
      at (inr l) = l

  -- so it is where it isn't behind the last one
  pub before_end : f ≢ n → f < n
  before_end o =
      let within : stages_in stages p ≤ n = h.staged.within p hp in let e = here in omega arith

  pub ended_at : f ≡ n → action_at (frame_rules b n) whole p ≡ Ended
  ended_at e = all_done b steps n stages states h p hp (let i = here in omega arith)

  -- what is read twice is the same
  pub read_again : (s t : States) → f < n → s ≡ get_or states f s → t ≡ get_or states f t → s ≡ t
  read_again s t less first second =
      same_Some _ _
      (sym (slice_get_read states n f s (sym h.count) less first)
      ∙ slice_get_read states n f t (sym h.count) less second)

  module _ (s : States) (less : f < n) (found_as : s ≡ get_or states f s) (k : Action)
      (does : k ≡ action_at (state_rules s.bundle s.frame) (state_world s) p) where
    found : slice_get states f ≡ Some s
    found = slice_get_read states n f s (sym h.count) less found_as

    pub action_is : past_end k ≡ action_at (frame_rules b n) whole p
    action_is =
        ap past_end does ∙ sym (whole_action b steps n stages states h p hp f s here found)

    pub enabled_end : k ≡ Ended → IsEnabled (frame_rules b n) whole p
    enabled_end e = end_can b steps n stages states h p hp f s here found (sym does ∙ e)

    -- what is sent goes to a processor
    pub to_known : (to : ℕ) → k ≡ Send to → to < processor_count b
    to_known to e =
        (is_series b steps n h.is_bundle h.good).sends f p to
        ((worlds_in states f).locals p)
        (sent (action_at ((frames_of b).rules f) (worlds_in states f) p) (sym does ∙ e))
      where
        sent : (j : Action) → action_at (state_rules s.bundle s.frame) (state_world s) p ≡ Send to →
            action_at ((frames_of b).rules f) (worlds_in states f) p ≡ Send to
        sent j i = net_action b steps n stages states h p hp f s here found ∙ i

    pub enabled_send : (to way room : ℕ) → k ≡ Send to → way ≡ way_len states p to n →
        room ≡ capacity_of b p to → IsTrue (nat_lt way room) ↔ IsEnabled (frame_rules b n) whole p
    enabled_send to way room e w r =
        let c = can_send b steps n stages states h p hp f s here found to (sym does ∙ e) in (
          λ t. c.1 (let l : way < room = ltb-true way room t in omega (arith, w, r)),
          λ i. let l = c.0 i in lt-ltb way room (omega (arith, w, r, l)),
        )

    pub enabled_other : (r : Bool) → ((to : ℕ) → k ≢ Send to) → k ≢ Ended →
        (IsTrue r ↔ IsEnabled (state_rules s.bundle s.frame) (state_world s) p) →
        IsTrue r ↔ IsEnabled (frame_rules b n) whole p
    enabled_other r no_send no_end own = (
      λ t. on_can b steps n stages states h p hp f s here found (own.0 t) (λ to e. no_send to (does ∙ e)),
      λ i. own.1 (can_on b steps n stages states h p hp f s here found i (λ e. no_end (does ∙ e))),
    )

    pub own_enabled : k ≢ Ended → IsEnabled (frame_rules b n) whole p →
        IsEnabled (state_rules s.bundle s.frame) (state_world s) p
    own_enabled o e = can_on b steps n stages states h p hp f s here found e (λ i. o (does ∙ i))

    pub ended_step : k ≡ Ended →
        (side_by_side (frames_of b) n (worlds_in states) (stages_in (set stages p (f + 1)))
        ≡ next (frame_rules b n) whole p)
        × IsFramed b steps n (set stages p (f + 1)) states
    ended_step e = rw add-one (end_step b steps n stages states h p hp f s here found (sym does ∙ e))

    pub own_step : k ≢ Ended → IsEnabled (frame_rules b n) whole p → (s' : States) →
        s'.bundle ≡ s.bundle → s'.frame ≡ s.frame →
        state_world s' ≡ next (state_rules s.bundle s.frame) (state_world s) p →
        (side_by_side (frames_of b) n (worlds_in (set states f s')) (stages_in stages)
        ≡ next (frame_rules b n) whole p)
        × IsFramed b steps n stages (set states f s')
    own_step o e s' bundle frame step =
        other_step b steps n stages states h p hp f s here found (own_enabled o e) s' bundle frame step

-- Everything at its start.

-- what stands at each place of a list with one element more
pub at_end : {A : Type 0} (xs : List A) (j : ℕ) (x : A) → length xs ≡ j →
    slice_get (xs ++ x ∷ []) j ≡ Some x
at_end [] zero x e = refl
at_end [] (suc j) x e = absurd (omega arith)
at_end (y ∷ xs) zero x e = absurd (omega arith)
at_end (y ∷ xs) (suc j) x e = at_end xs j x (omega arith)

pub before : {A : Type 0} (xs : List A) (j : ℕ) (x y : A) → j ≢ length xs →
    slice_get (xs ++ x ∷ []) j ≡ Some y → slice_get xs j ≡ Some y
before [] zero x y o g = absurd (o refl)
before [] (suc j) x y o g = absurd (none-some y g)
before (z ∷ xs) zero x y o g = g
before (z ∷ xs) (suc j) x y o g = before xs j x y (λ (e : j ≡ length xs). o (omega arith)) g

-- one machine more
pub fresh_more : (b : Parts) (k : ℕ) (states : List States) (s : States) → AreFresh b k states →
    s.bundle ≡ b → s.frame ≡ k → state_world s ≡ start → AreFresh b (k + 1) (states ++ s ∷ [])
fresh_more b k states s h bundle frame starts = record {
  count = let c = h.count in let l = length-append states (s ∷ []) in omega arith;
  machines = λ j t g. machines j t g (eqb_tells j k);
  starts = λ j t g. started j t g (eqb_tells j k);
}
  where
    is_new : (j : ℕ) (t : States) → slice_get (states ++ s ∷ []) j ≡ Some t → j ≡ k → s ≡ t
    is_new j t g e = same_Some _ _ (sym (at_end states j s (h.count ∙ sym e)) ∙ g)

    old : (j : ℕ) (t : States) → slice_get (states ++ s ∷ []) j ≡ Some t → j ≢ k →
        slice_get states j ≡ Some t
    old j t g o = before states j s t (λ e. o (e ∙ h.count)) g

    machines : (j : ℕ) (t : States) → slice_get (states ++ s ∷ []) j ≡ Some t → EqualOrNot j k →
        (t.bundle ≡ b) × (t.frame ≡ j)
    machines j t g (inl i) =
        let is = sym (is_new j t g i.1) in (
          ap (λ (u : States). u.bundle) is ∙ bundle,
          ap (λ (u : States). u.frame) is ∙ frame ∙ sym i.1,
        )
    machines j t g (inr i) = h.machines j t (old j t g i.1)

    started : (j : ℕ) (t : States) → slice_get (states ++ s ∷ []) j ≡ Some t → EqualOrNot j k →
        state_world t ≡ start
    started j t g (inl i) = ap state_world (sym (is_new j t g i.1)) ∙ starts
    started j t g (inr i) = h.starts j t (old j t g i.1)

zeros_at : (n p : ℕ) → get_or (replicate {A = ℕ} n 0) p 0 ≡ 0
zeros_at n p = at (low_or_high n p)
  where
    low_or_high : (n p : ℕ) → (n ≤ p) ⊎ (p < n)
    low_or_high n p = grind arith

    at : (n ≤ p) ⊎ (p < n) → get_or (replicate {A = ℕ} n 0) p 0 ≡ 0
    at (inl l) =
        get_or_past (replicate {A = ℕ} n 0) p 0
        (let k = length-replicate {A = ℕ} n 0 in omega arith)
    at (inr l) = get_or-replicate n p 0 0 l

module _ (b : Parts) (steps n : ℕ) (stages : List ℕ) (states : List States) (is : IsBundle b)
    (good : IsGood b steps) (zeros : stages ≡ replicate {A = ℕ} (processor_count b) 0)
    (h : AreFresh b n states) where
  all_start : worlds_in states ≡ (λ _. start)
  all_start = fun_ext (λ k. at k (slice_get states k) refl)
    where
      at : (k : ℕ) (o : Option States) → slice_get states k ≡ o → worlds_in states k ≡ start
      at k None e = ap (frame_of k) e
      at k (Some s) e = ap (frame_of k) e ∙ ap (world_map (stamped k)) (h.starts k s e)

  no_stage : stages_in stages ≡ (λ _. 0)
  no_stage =
      fun_ext (λ p. ap (λ (xs : List ℕ). get_or xs p 0) zeros ∙ zeros_at (processor_count b) p)

  pub fresh_framed : IsFramed b steps n stages states
  fresh_framed = record {
    is_bundle = is;
    good = good;
    places =
        ap (λ (xs : List ℕ). length xs) zeros ∙ length-replicate {A = ℕ} (processor_count b) 0;
    count = h.count;
    machines = h.machines;
    staged =
        subst (λ ws. IsStaged (frames_of b) n start ws (stages_in stages)) (sym all_start)
        (subst (IsStaged (frames_of b) n start (λ _. start)) (sym no_stage)
        (start_staged (frames_of b) n steps start (is_series b steps n is good)));
  }

  pub fresh_world : side_by_side (frames_of b) n (worlds_in states) (stages_in stages) ≡ frame_start
  fresh_world =
      ap (λ ws. side_by_side (frames_of b) n ws (stages_in stages)) all_start
      ∙ ap (side_by_side (frames_of b) n (λ _. start)) no_stage
      ∙ sym (start_same (frames_of b) n steps start (is_series b steps n is good))

-- the outputs of one frame more
pub printed_more : (b : Parts) (k : ℕ) (outputs : List Outputs) (o : Outputs) →
    PrintFrames b k outputs → Prints b k o.lists → PrintFrames b (k + 1) (outputs ++ o ∷ [])
printed_more b k outputs o h new = record {
  count = let c = h.count in let l = length-append outputs (o ∷ []) in omega arith;
  each = λ j t g. each j t g (eqb_tells j k);
}
  where
    each : (j : ℕ) (t : Outputs) → slice_get (outputs ++ o ∷ []) j ≡ Some t → EqualOrNot j k →
        Prints b j t.lists
    each j t g (inl i) =
        let is : o ≡ t = same_Some _ _ (sym (at_end outputs j o (h.count ∙ sym i.1)) ∙ g) in
        subst (λ m. Prints b m t.lists) (sym i.1) (subst (λ (u : Outputs). Prints b k u.lists) is new)
    each j t g (inr i) = h.each j t (before outputs j o t (λ e. i.1 (e ∙ h.count)) g)
