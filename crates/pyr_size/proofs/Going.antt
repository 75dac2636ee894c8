-- What the run that follows a schedule keeps, from step to step.
use Rattle.std.proofs.Common.{◌≡◌, ◌≢◌, ℕ, ◌+◌, ◌<◌, max, List, [], ◌∷◌, length, drop, get_or, add-one, refl, sym, ◌∙◌, ap, subst, arith}
use Rattle.std.proofs.Math.Seq.{drop-cons, drop-length}
use mathlib.Core.Path.{fun_ext}
use Rattle.pyr_num.specs.declared.ids.DatumId.{DatumId}
use Rattle.pyr_net.specs.Net.{Rules, World, IsEnabled, IsPossible, action_at, next}
use Rattle.pyr_net.specs.Occupancy.{occupancy}
use Rattle.pyr_net.specs.declared.action.Action.{Action}
use Rattle.pyr_net.specs.declared.action.Action.TheVariants.{Internal, Send as SendTo, Take, Ended, Lacks}
use Rattle.pyr_bundle.specs.declared.instr.Instr.TheVariants.{Send}
use Rattle.pyr_bundle.specs.Parts.{Parts, processor_count}
use Rattle.pyr_bundle.specs.WellFormed.{IsWellFormed}
use Rattle.pyr_machine.specs.Machine.{LocalState, tags, tag_rules, start, instr_at}
use Rattle.pyr_machine.specs.Counts.{steps_left}
use Rattle.pyr_machine.proofs.Bounded.{step_left}
use Rattle.pyr_machine.proofs.Demand.{send_instr}
use Rattle.pyr_size.specs.Followed.{raised, HasTurn, KeepsLeft, MakesTurn, IsLeft}
use Rattle.pyr_size.specs.Sizes.{Completes}
use Rattle.pyr_size.proofs.Turn.{turn_enabled, take_left, work_left, send_left}

module _ (b c : Parts) (same : tag_rules c ≡ tag_rules b) (p : ℕ) (w : World (LocalState DatumId) DatumId) where
  pub turn_can : HasTurn b p w → IsEnabled (tag_rules c) w p
  turn_can (whole, schedule, most, left) =
      subst (λ (net : Rules (LocalState DatumId) DatumId). IsEnabled net w p) (sym same) (turn_enabled b whole p schedule w most left)

  pub turn_actor : HasTurn b p w → p < processor_count c
  turn_actor turn = (turn_can turn).actor

  -- the action and the state after the step, in the words of the bundle
  pub action_is : action_at (tag_rules c) w p ≡ action_at (tag_rules b) w p
  action_is = ap (λ (net : Rules (LocalState DatumId) DatumId). action_at net w p) same

  pub next_is : next (tag_rules c) w p ≡ next (tag_rules b) w p
  next_is = ap (λ (net : Rules (LocalState DatumId) DatumId). next net w p) same

  pub takes : (v : World (LocalState DatumId) DatumId) (from : ℕ) → v ≡ next (tag_rules c) w p → action_at (tag_rules c) w p ≡ Take from → KeepsLeft b p w v
  takes v from is e whole schedule most left =
      subst (λ u. IsLeft b whole (p ∷ schedule) u most) (sym (is ∙ next_is)) (take_left b whole p schedule w most left from (sym action_is ∙ e))

  pub fewer : (v : World (LocalState DatumId) DatumId) → IsWellFormed b → v ≡ next (tag_rules c) w p → HasTurn b p w → steps_left b v < steps_left b w
  fewer v good is (whole, schedule, most, left) = step_left (tags b) b w v p good (turn_enabled b whole p schedule w most left) (is ∙ next_is)

pub turn_kept : (b : Parts) (p : ℕ) (w v : World (LocalState DatumId) DatumId) → KeepsLeft b p w v → HasTurn b p w → HasTurn b p v
turn_kept b p w v keeps (whole, schedule, most, left) = (whole, schedule, most, keeps whole schedule most left)

pub then_keeps : (b : Parts) (p : ℕ) (u w v : World (LocalState DatumId) DatumId) → KeepsLeft b p u w → KeepsLeft b p w v → KeepsLeft b p u v
then_keeps b p u w v first second whole schedule most left = second whole schedule most (first whole schedule most left)

-- what is left, with the same lengths
left_same : (b : Parts) (whole : ℕ → ℕ → ℕ) (schedule : List ℕ) (v : World (LocalState DatumId) DatumId) (most more : ℕ → ℕ → ℕ) → ((x y : ℕ) → more x y ≡ most x y) → IsLeft b whole schedule v most → IsLeft b whole schedule v more
left_same b whole schedule v most more same left =
    subst (IsLeft b whole schedule v) (sym (fun_ext (λ x. fun_ext (λ y. same x y)))) left

-- an enabled step that is neither a send nor a take is internal
internal_of : (b : Parts) (w : World (LocalState DatumId) DatumId) (p : ℕ) (k : Action) → IsPossible (tag_rules b) w p k → ((to : ℕ) → k ≢ SendTo to) → ((from : ℕ) → k ≢ Take from) → k ≡ Internal
internal_of b w p Internal h s t = refl
internal_of b w p (SendTo to) h s t = absurd (s to refl)
internal_of b w p (Take from) h s t = absurd (t from refl)
internal_of b w p Ended h s t = absurd h
internal_of b w p Lacks h s t = absurd h

-- the last step of a turn, after the takes have led from u to w
module _ (b c : Parts) (same : tag_rules c ≡ tag_rules b) (p : ℕ) (u w v : World (LocalState DatumId) DatumId) (keeps : KeepsLeft b p u w) (turn : HasTurn b p u) (is : v ≡ next (tag_rules c) w p) where
  pub last_turn : HasTurn b p w
  last_turn = turn_kept b p u w keeps turn

  pub receiver_known : (to : ℕ) → IsWellFormed b → action_at (tag_rules c) w p ≡ SendTo to → to < processor_count b
  receiver_known to well e =
      let i = send_instr (tags b) b (instr_at b p (w.locals p)) (w.locals p) to (sym (action_is b c same p w) ∙ e) in
      subst (λ q. q < processor_count b) i.3 (well.instrs p (w.locals p).place (Send i.0 i.1) i.2).0.0

  pub sends_turn : (to n : ℕ) (most more : ℕ → ℕ → ℕ) → action_at (tag_rules c) w p ≡ SendTo to → n ≡ length (v.lists p to) → ((x y : ℕ) → more x y ≡ raised most p to n x y) → MakesTurn b p u most v more
  sends_turn to n most more e length_is raised_is whole schedule left =
      let net = tag_rules b in
      let sent = send_left b whole p schedule w most (keeps whole schedule most left) to (sym (action_is b c same p w) ∙ e) in
      let here : v ≡ next net w p = is ∙ next_is b c same p w in
      let there : IsLeft b whole schedule v (raised most p to (length (v.lists p to))) =
      subst (λ (z : World (LocalState DatumId) DatumId). IsLeft b whole schedule z (raised most p to (length (z.lists p to)))) (sym here) sent in
      left_same b whole schedule v (raised most p to n) more raised_is (subst (λ m. IsLeft b whole schedule v (raised most p to m)) (sym length_is) there)

  pub works_turn : (most : ℕ → ℕ → ℕ) → ((to : ℕ) → action_at (tag_rules c) w p ≢ SendTo to) → ((from : ℕ) → action_at (tag_rules b) w p ≢ Take from) → MakesTurn b p u most v most
  works_turn most no_send no_take whole schedule left =
      let now = keeps whole schedule most left in
      let h = turn_enabled b whole p schedule w most now in
      let e = internal_of b w p (action_at (tag_rules b) w p) h.possible (λ to f. no_send to (action_is b c same p w ∙ f)) no_take in
      subst (λ z. IsLeft b whole schedule z most) (sym (is ∙ next_is b c same p w)) (work_left b whole p schedule w most now e)

-- at the start all of the run is left
pub all_left : (b : Parts) (schedule : List ℕ) (w : World (LocalState DatumId) DatumId) (most : ℕ → ℕ → ℕ) → w ≡ start → ((x y : ℕ) → most x y ≡ 0) → (complete : Completes b schedule)
    → IsLeft b (occupancy (tag_rules b) start complete.run) schedule w most
all_left b schedule w most at_start none complete =
    left_same b (occupancy (tag_rules b) start complete.run) schedule w (λ x y. 0) most none
    (subst (λ z. IsLeft b (occupancy (tag_rules b) start complete.run) schedule z (λ x y. 0)) (sym at_start)
    (record { rest = complete.run; is_run = complete.is_run; follows = complete.follows; reached = λ x y. omega arith; over_all = λ x y. omega arith }))

-- of what is left the next is p
pub left_first : (b : Parts) (whole : ℕ → ℕ → ℕ) (schedule : List ℕ) (i p : ℕ) (w : World (LocalState DatumId) DatumId) (most : ℕ → ℕ → ℕ) → i < length schedule → get_or schedule i 0 ≡ p → IsLeft b whole (drop i schedule) w most
    → IsLeft b whole (p ∷ drop (i + 1) schedule) w most
left_first b whole schedule i p w most inside is left =
    subst (λ (s : List ℕ). IsLeft b whole s w most)
    (drop-cons schedule i 0 inside ∙ (λ j. is j ∷ drop (sym (add-one i) j) schedule)) left

pub has_turn : (b : Parts) (schedule : List ℕ) (i p : ℕ) (w : World (LocalState DatumId) DatumId) (most : ℕ → ℕ → ℕ) → i < length schedule → get_or schedule i 0 ≡ p → (complete : Completes b schedule)
    → IsLeft b (occupancy (tag_rules b) start complete.run) (drop i schedule) w most → HasTurn b p w
has_turn b schedule i p w most inside is complete left =
    (occupancy (tag_rules b) start complete.run, drop (i + 1) schedule, most, left_first b (occupancy (tag_rules b) start complete.run) schedule i p w most inside is left)

-- at the end nothing is left, and the lengths are those of the whole run
pub none_left : (b : Parts) (whole : ℕ → ℕ → ℕ) (w : World (LocalState DatumId) DatumId) (most : ℕ → ℕ → ℕ) → IsLeft b whole [] w most → (x y : ℕ) → most x y ≡ whole x y
none_left b whole w most left x y =
    let all = subst (λ run. max (most x y) (occupancy (tag_rules b) w run x y) ≡ whole x y) left.follows (left.over_all x y) in
    let low = left.reached x y in
    omega (arith, all, low)

pub past_end : (schedule : List ℕ) (i : ℕ) → i ≡ length schedule → drop i schedule ≡ []
past_end schedule i e = ap (λ j. drop j schedule) e ∙ drop-length schedule
