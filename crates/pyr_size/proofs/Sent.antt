-- The occupancy of a channel along a complete run is from 1 to its sends.
use Rattle.std.proofs.Common.{◌≡◌, ◌≢◌, ℕ, zero, suc, ◌+◌, ◌<◌, ◌≤◌, ◌==◌, ◌&&◌, max, Bool, true, false, cond, List, [], ◌∷◌, ◌++◌, length, map, drop, slice_index_or, slice_get, Some, None, ◌⊎◌, inl, inr, refl, sym, ◌∙◌, ap, subst, arith, add-one}
use mathlib.Core.Path.{fun_ext}
use Rattle.std.specs.Prelude.{All, count_by}
use Rattle.std.proofs.lemmas.Bool.{cases_lt, ne_eqb, eqb-true, and_parts}
use Rattle.std.proofs.lemmas.List.{get_or_past, get_or_default}
use Rattle.std.proofs.lemmas.List.Elements.{All-map}
use Rattle.std.proofs.lemmas.Option.{none-some}
use Rattle.std.proofs.lemmas.Bool.Decides.{eqb_tells}
use Rattle.std.proofs.lemmas.List.Sums.{sum_by-cons}
use Rattle.pyr_num.specs.declared.ids.DatumId.{DatumId}
use Rattle.pyr_num.specs.declared.ids.ProcId.{ProcId}
use Rattle.pyr_net.specs.Net.{World, IsPossible, action_at, next, state_after, local_taken}
use Rattle.pyr_net.specs.Run.{IsRun, end_of}
use Rattle.pyr_net.specs.Occupancy.{occupancy}
use Rattle.pyr_net.specs.declared.action.Action.{Action}
use Rattle.pyr_net.specs.declared.action.Action.TheVariants.{Internal, Send as SendTo, Take, Ended, Lacks}
use Rattle.pyr_net.proofs.Update.{put_other}
use Rattle.pyr_net.proofs.Occupied.{occupied_now, sent_length}
use Rattle.pyr_bundle.specs.declared.capacity.Capacity.{Capacity}
use Rattle.pyr_bundle.specs.declared.instr.Instr.{Instr}
use Rattle.pyr_bundle.specs.declared.instr.Instr.TheVariants.{Recv, Exec, Send}
use Rattle.pyr_bundle.specs.declared.raw_instr.RawInstr.{RawInstr}
use Rattle.pyr_bundle.specs.Laws.{is_send_to, send_count}
use Rattle.pyr_bundle.specs.Raw.{code_in}
use Rattle.pyr_bundle.specs.Parts.{Parts, raw_of, raw_instr_of, processor_count, code_at, no_channel}
use Rattle.pyr_bundle.specs.WellFormed.{IsWellFormed, IsFineCapacity}
use Rattle.pyr_machine.specs.Machine.{LocalState, tags, tag_rules, start, instr_at, worked_by, advanced, capacity_in}
use Rattle.pyr_machine.specs.Counts.{sends_to}
use Rattle.pyr_machine.specs.Good.{IsDone}
use Rattle.pyr_machine.proofs.Demand.{send_instr, taken_place}
use Rattle.pyr_machine.proofs.Exact.{sends_skip, worked_skip, coming_same}
use Rattle.pyr_machine.proofs.Traffic.{past}
use Rattle.pyr_size.specs.Blocks.{order_schedule}
use Rattle.pyr_size.specs.Followed.{IsKnown}
use Rattle.pyr_size.specs.Sizes.{resized, sized, Completes, AreSizes}
use Rattle.pyr_size.proofs.Sized.{occupancy_le}

-- the sends to q that are left at p
abbrev left : Parts → ℕ → ℕ → World (LocalState DatumId) DatumId → ℕ
left b p q w = sends_to q (drop (w.locals p).place (code_at b p))

module _ (b : Parts) (p q : ℕ) where
  -- a step after which the list from p to q is empty leaves all sends from p to q
  none_by : (w : World (LocalState DatumId) DatumId) (r : ℕ) (a : Action) → action_at (tag_rules b) w r ≡ a → IsPossible (tag_rules b) w r a
      → length ((state_after (tag_rules b) w r a).lists p q) ≡ 0 → left b p q w ≤ left b p q (state_after (tag_rules b) w r a)
  none_by w r Internal e h z =
      let i = worked_skip (tags b) b (instr_at b r (w.locals r)) (w.locals r) (code_at b r) e refl in
      coming_same (tags b) b w r (worked_by (tags b) (instr_at b r (w.locals r)) (w.locals r)) q p (rw i.0 (i.1 q))
  none_by w r (SendTo to) e h z = at (eqb_tells p r) (eqb_tells to q)
    where
      l : LocalState DatumId
      l = w.locals r

      i : (to' : ProcId) × (d : DatumId) × (instr_at b r l ≡ Some (Send to' d)) × (to'.0 ≡ to)
      i = send_instr (tags b) b (instr_at b r l) l to e

      at : (((p == r) ≡ true) × (p ≡ r)) ⊎ (((p == r) ≡ false) × (p ≢ r)) → (((to == q) ≡ true) × (to ≡ q)) ⊎ (((to == q) ≡ false) × (to ≢ q)) → left b p q w ≤ left b p q (state_after (tag_rules b) w r (SendTo to))
      at (inr other) t = rw (put_other w.locals r (advanced l) p other.1) (omega arith)
      at (inl same) (inl there) =
          let longer = sent_length (tag_rules b) w r to in
          let empty : length ((state_after (tag_rules b) w r (SendTo to)).lists r to) ≡ 0 = (λ j. length ((state_after (tag_rules b) w r (SendTo to)).lists (sym same.1 j) (there.1 j))) ∙ z in
          absurd (omega (arith, longer, empty))
      at (inl same) (inr there) =
          coming_same (tags b) b w r (advanced l) q p
          (rw (add-one l.place) (sends_skip q l.place (code_at b r) (Send i.0 i.1) i.2 (λ rest. rw (ne_eqb i.0.0 q (λ f. there.1 (sym i.3 ∙ f))) refl)))
  none_by w r (Take from) e h z =
      coming_same (tags b) b w r (local_taken ((tag_rules b).taken r) (w.locals r) (w.lists from r)) q p (rw (taken_place (w.lists from r) (w.locals r)) (omega arith))
  none_by w r Ended e h z = absurd h
  none_by w r Lacks e h z = absurd h

  -- so does a run along which it is empty
  none_sent : (w : World (LocalState DatumId) DatumId) (run : List ℕ) → IsRun (tag_rules b) w run → occupancy (tag_rules b) w run p q ≡ 0 → left b p q w ≤ left b p q (end_of (tag_rules b) w run)
  none_sent w [] r z = omega arith
  none_sent w (a ∷ run) r z =
      let v = next (tag_rules b) w a in
      let now = occupied_now (tag_rules b) v run p q in
      let (rest, here) = zero_both _ _ _ z now in
      let one = none_by w a (action_at (tag_rules b) w a) refl r.0.possible here in
      let more = none_sent v run r.1 rest in
      omega (arith, one, more)
    where
      zero_both : (x y n : ℕ) → max x y ≡ 0 → n ≤ y → (y ≡ 0) × (n ≡ 0)
      zero_both x y n e l = (omega (arith, e), omega (arith, e, l))

none_more : (m n : ℕ) → m ≡ n → 0 + m ≡ n
none_more m n e = omega (arith, e)

-- the sends among raw instructions
sends_among : (q : ℕ) (code : List Instr) → count_by (is_send_to q) (map raw_instr_of code) ≡ sends_to q code
sends_among q [] = refl
sends_among q (Recv from d ∷ code) = sum_by-cons (λ (y : RawInstr). cond (is_send_to q y) 1 0) (raw_instr_of (Recv from d)) (map raw_instr_of code) ∙ none_more _ _ (sends_among q code)
sends_among q (Exec t ∷ code) = sum_by-cons (λ (y : RawInstr). cond (is_send_to q y) 1 0) (raw_instr_of (Exec t)) (map raw_instr_of code) ∙ none_more _ _ (sends_among q code)
sends_among q (Send to d ∷ code) = sum_by-cons (λ (y : RawInstr). cond (is_send_to q y) 1 0) (raw_instr_of (Send to d)) (map raw_instr_of code) ∙ at (to.0 == q) (sends_among q code)
  where
    at : (c : Bool) → count_by (is_send_to q) (map raw_instr_of code) ≡ sends_to q code → cond c 1 0 + count_by (is_send_to q) (map raw_instr_of code) ≡ cond c (suc (sends_to q code)) (sends_to q code)
    at true ih = omega (arith, ih)
    at false ih = none_more _ _ ih

code_mapped : (code : List (List Instr)) (p : ℕ) → code_in (map (map raw_instr_of) code) p ≡ map raw_instr_of (slice_index_or code p [])
code_mapped [] zero = refl
code_mapped [] (suc p) = refl
code_mapped (c ∷ code) zero = refl
code_mapped (c ∷ code) (suc p) = code_mapped code p

pub sends_are : (b : Parts) (p q : ℕ) → send_count (raw_of b).code p q ≡ sends_to q (code_at b p)
sends_are b p q = ap (count_by (is_send_to q)) (code_mapped b.code p) ∙ sends_among q (code_at b p)

-- where every channel has as many at most, each pair has
capacity_le : (f : ℕ → ℕ → ℕ) (cs : List Capacity) (p q : ℕ) → ((i : ℕ) → i < length cs → (slice_index_or cs i no_channel).capacity ≤ f (slice_index_or cs i no_channel).from.0 (slice_index_or cs i no_channel).to.0) → capacity_in cs p q ≤ f p q
capacity_le f [] p q h = omega arith
capacity_le f (c ∷ cs) p q h = at ((c.from.0 == p) && (c.to.0 == q)) refl (h 0 (omega arith)) (capacity_le f cs p q (λ i l. h (suc i) (omega (arith, l))))
  where
    at : (t : Bool) → ((c.from.0 == p) && (c.to.0 == q)) ≡ t → c.capacity ≤ f c.from.0 c.to.0 → capacity_in cs p q ≤ f p q → cond t c.capacity (capacity_in cs p q) ≤ f p q
    at true is g ih =
        let (same_p, same_q) = and_parts (c.from.0 == p) (c.to.0 == q) is in
        let same : f c.from.0 c.to.0 ≡ f p q = λ i. f (eqb-true c.from.0 p same_p i) (eqb-true c.to.0 q same_q i) in
        omega (arith, g, same)
    at false is g ih = ih

-- each size is one that its channel may have
pub fine_size : (b : Parts) (run : List ℕ) (c : Capacity) → IsWellFormed b → IsRun (tag_rules b) start run → IsDone (tags b) b (end_of (tag_rules b) start run) → IsFineCapacity b c
    → IsFineCapacity b (resized (occupancy (tag_rules b) start run) c)
fine_size b run c well r done fine = (some, most)
  where
    from : ℕ
    from = c.from.0

    to : ℕ
    to = c.to.0

    most : occupancy (tag_rules b) start run from to ≤ send_count (raw_of b).code from to
    most =
        let low = occupancy_le b run from to r in
        let few = capacity_le (send_count (raw_of b).code) b.channels from to (λ i l. (well.capacities i l).1) in
        omega (arith, low, few)

    some_of : (n : ℕ) → occupancy (tag_rules b) start run from to ≡ n → 1 ≤ n
    some_of zero z =
        let kept = none_sent b from to start run r z in
        let nothing = ap (sends_to to) (past (tags b) b (end_of (tag_rules b) start run) done.complete.ended from) in
        let all = sends_are b from to in
        let sends = fine.0 in
        let most = fine.1 in
        absurd (omega (arith, kept, nothing, all, sends, most))
    some_of (suc n) e = omega arith

    some : 1 ≤ occupancy (tag_rules b) start run from to
    some = some_of (occupancy (tag_rules b) start run from to) refl

-- a channel is between two of the processors

some_send : (q : ℕ) (code : List Instr) → 0 < sends_to q code → (i : ℕ) × (to : ProcId) × (d : DatumId) × (slice_get code i ≡ Some (Send to d)) × (to.0 ≡ q)
some_send q [] h = absurd (omega (arith, h))
some_send q (Recv from d ∷ code) h = let (i, to, e, there, is) = some_send q code h in (suc i, to, e, there, is)
some_send q (Exec t ∷ code) h = let (i, to, e, there, is) = some_send q code h in (suc i, to, e, there, is)
some_send q (Send to d ∷ code) h = at (to.0 == q) refl h (some_send q code)
  where
    at : (c : Bool) → (to.0 == q) ≡ c → 0 < cond c (suc (sends_to q code)) (sends_to q code) → (0 < sends_to q code → (i : ℕ) × (r : ProcId) × (e : DatumId) × (slice_get code i ≡ Some (Send r e)) × (r.0 ≡ q))
        → (i : ℕ) × (r : ProcId) × (e : DatumId) × (slice_get (Send to d ∷ code) i ≡ Some (Send r e)) × (r.0 ≡ q)
    at true is g ih = (0, to, d, refl, eqb-true to.0 q is)
    at false is g ih = let (i, r, e, there, same) = ih g in (suc i, r, e, there, same)

no_code : (b : Parts) (p : ℕ) (x : Instr) (i : ℕ) → slice_get (code_at b p) i ≡ Some x → p < processor_count b
no_code b p x i e = elim (cases_lt p (processor_count b)) [
  | inl inside ↦ inside
  | inr past ↦ absurd (none-some x (at i ∙ subst (λ (code : List Instr). slice_get code i ≡ Some x) (get_or_past b.code p [] past) e))
]
  where
    at : (i : ℕ) → None ≡ slice_get {X = Instr} [] i
    at zero = refl
    at (suc i) = refl

pub channel_known : (b : Parts) (c : Capacity) → IsWellFormed b → IsFineCapacity b c → (c.from.0 < processor_count b) × (c.to.0 < processor_count b)
channel_known b c well fine =
    let all = sends_are b c.from.0 c.to.0 in
    let few = fine.0 in
    let most = fine.1 in
    let (i, to, d, there, is) = some_send c.to.0 (code_at b c.from.0) (omega (arith, all, few, most)) in
    (no_code b c.from.0 (Send to d) i there, subst (λ q. q < processor_count b) is (well.instrs c.from.0 i (Send to d) there).0.0)

-- so they all are, and each has a size that it may have
pub channels_known : (b : Parts) (cs : List Capacity) (n : ℕ) → IsWellFormed b → cs ≡ b.channels → n ≡ processor_count b → All (IsKnown n) cs
channels_known b cs n well same count = subst (λ m. All (IsKnown m) cs) (sym count) (subst (All (IsKnown (processor_count b))) (sym same) each)
  where
    each : All (IsKnown (processor_count b)) b.channels
    each i d l =
        subst (IsKnown (processor_count b)) (get_or_default b.channels i no_channel d l) (channel_known b (slice_index_or b.channels i no_channel) well (well.capacities i l))

pub fine_sizes : (b : Parts) (run : List ℕ) → IsWellFormed b → IsRun (tag_rules b) start run → IsDone (tags b) b (end_of (tag_rules b) start run) → All (IsFineCapacity b) (sized b run).channels
fine_sizes b run well r done = All-map (IsFineCapacity b) (resized (occupancy (tag_rules b) start run)) b.channels (λ i d l.
    fine_size b run (slice_index_or b.channels i d) well r done (subst (IsFineCapacity b) (get_or_default b.channels i no_channel d l) (well.capacities i l)))

-- what was noted is the occupancy
pub sizes_are : (b : Parts) (order : List ℕ) (most : ℕ → ℕ → ℕ) (found : List Capacity) (complete : Completes b (order_schedule b order)) → ((p q : ℕ) → most p q ≡ occupancy (tag_rules b) start complete.run p q) → found ≡ map (resized most) b.channels
    → AreSizes b order found
sizes_are b order most found complete same is = record {
  complete = complete;
  are = is ∙ ap (λ (f : ℕ → ℕ → ℕ). map (resized f) b.channels) (fun_ext (λ p. fun_ext (λ q. same p q)));
}

pub sizes_noted : (b : Parts) (order schedule : List ℕ) (most : ℕ → ℕ → ℕ) (room found cs : List Capacity) → schedule ≡ order_schedule b order → Completes b (order_schedule b order)
    → ((complete : Completes b schedule) (p q : ℕ) → most p q ≡ occupancy (tag_rules b) start complete.run p q) → room ≡ [] → cs ≡ b.channels → found ≡ room ++ map (resized most) cs → AreSizes b order found
sizes_noted b order schedule most room found cs is complete noted empty same put =
    sizes_are b order most found complete
    (subst (λ (s : List ℕ). (c : Completes b s) (p q : ℕ) → most p q ≡ occupancy (tag_rules b) start c.run p q) is noted complete)
    (put ∙ ap (λ (l : List Capacity). l ++ map (resized most) cs) empty ∙ ap (λ (l : List Capacity). map (resized most) l) same)

pub sizes_fine : (b : Parts) (order : List ℕ) (found : List Capacity) → IsWellFormed b → AreSizes b order found → All (IsFineCapacity b) found
sizes_fine b order found well sizes =
    subst (All (IsFineCapacity b)) (sym sizes.are) (fine_sizes b sizes.complete.run well sizes.complete.is_run sizes.complete.done)
