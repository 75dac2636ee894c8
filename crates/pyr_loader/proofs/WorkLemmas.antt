-- Which actors a step may wake, and that the work list has them.
use Rattle.std.proofs.Common.{◌≡◌, ◌≢◌, true, false, ℕ, zero, suc, ◌+◌, ◌*◌, ◌-◌, ◌<◌, ◌≤◌, ◌==◌, List, [], ◌∷◌, ◌++◌, take, length, length-append, Bool, cond, Option, Some, None, ◌⊎◌, inl, inr, refl, sym, ◌∙◌, ap, subst, IsTrue, ◌↔◌, arith}
use Rattle.std.specs.Prelude.{Contains, All}
use Rattle.std.proofs.Math.Nat.{suc-mul}
use Rattle.std.proofs.lemmas.Bool.Decides.{eqb_tells}
use Rattle.std.proofs.lemmas.List.{get_or_append_left}
use Rattle.std.proofs.lemmas.List.Elements.{Contains-append_left, Contains-append_right, Contains-append_cases, All-append}
use Rattle.std.proofs.lemmas.Option.{same_Some}
use Rattle.pyr_num.specs.declared.ids.DatumId.{DatumId}
use Rattle.pyr_net.specs.Net.{Rules, World, IsEnabled, IsPossible, action_at, next, state_after, rest_of, appended}
use Rattle.pyr_net.specs.Run.{IsRun, Reaches, IsOutcome}
use Rattle.pyr_net.specs.declared.action.Action.{Action}
use Rattle.pyr_net.specs.declared.action.Action.TheVariants.{Internal, Send as SendTo, Take, Ended, Lacks}
use Rattle.pyr_net.proofs.Diamond.{locals_kept}
use Rattle.pyr_net.proofs.Update.{changed_other}
use Rattle.pyr_net.proofs.Reach.{one_more, outcome}
use Rattle.pyr_bundle.specs.Parts.{Parts, processor_count, code_at}
use Rattle.pyr_bundle.specs.WellFormed.{IsWellFormed}
use Rattle.pyr_bundle.specs.declared.instr.Instr.{Instr}
use Rattle.pyr_bundle.specs.declared.instr.Instr.TheVariants.{Recv, Exec, Send}
use Rattle.pyr_machine.specs.Machine.{LocalState, tags, tag_rules, start, instr_at}
use Rattle.pyr_machine.specs.Counts.{sum_below, sends_to, all_sends, steps_left, step_count}
use Rattle.pyr_machine.proofs.Demand.{send_instr, take_instr}
use Rattle.pyr_machine.proofs.Bounded.{run_le, start_left, step_left}
use Rattle.pyr_loader.specs.WorkList.{partner_of, IsListed, with_partner, AreActors, AreBelow}

module _ {L P : Type 0} (net : Rules L P) (w : World L P) (p q : ℕ) (other : p ≢ q) where
  -- what q can do after a step of p it could do before, but for a list between the two
  possible_before : (k j : Action) → partner_of k ≢ Some q → IsPossible net (state_after net w p k) q j → IsPossible net w q j
  possible_before k Internal n h = tt
  possible_before Internal (SendTo to) n h = h
  possible_before (SendTo x) (SendTo to) n h =
      subst (λ xs. length xs < net.capacity q to) (changed_other w.lists p x (appended net p (w.locals p)) q to (λ e _. other (sym e))) h
  possible_before (Take x) (SendTo to) n h =
      subst (λ xs. length xs < net.capacity q to) (changed_other w.lists x p rest_of q to (λ e _. n (ap Some (sym e)))) h
  possible_before Ended (SendTo to) n h = h
  possible_before Lacks (SendTo to) n h = h
  possible_before Internal (Take from) n h = h
  possible_before (SendTo x) (Take from) n h =
      subst (λ xs. 0 < length xs) (changed_other w.lists p x (appended net p (w.locals p)) from q (λ _ e. n (ap Some (sym e)))) h
  possible_before (Take x) (Take from) n h =
      subst (λ xs. 0 < length xs) (changed_other w.lists x p rest_of from q (λ _ e. other (sym e))) h
  possible_before Ended (Take from) n h = h
  possible_before Lacks (Take from) n h = h
  possible_before k Ended n h = h
  possible_before k Lacks n h = h

  -- so no other actor comes to be able to make a step
  pub enabled_before : partner_of (action_at net w p) ≢ Some q → IsEnabled net (next net w p) q → IsEnabled net w q
  enabled_before n h = record {
    actor = h.actor;
    possible = possible_before (action_at net w p) (action_at net w q) n
        (subst (IsPossible net (next net w p) q) (ap (net.action q) (locals_kept net w p q (action_at net w p) other)) h.possible);
  }

one_of : (p q : ℕ) → Contains (p ∷ []) q → q ≡ p
one_of p q (zero, l, e) = sym e
one_of p q (suc k, l, e) = absurd (omega arith)

last_there : (xs : List ℕ) (p : ℕ) → Contains (xs ++ p ∷ []) p
last_there xs p = Contains-append_right xs (p ∷ []) p (0, omega arith, refl)

-- an actor that can't go on is taken out of the work list
pub turn_over : {L P : Type 0} (net : Rules L P) (w : World L P) (p : ℕ) (waiting rest : List ℕ) → waiting ≡ rest ++ p ∷ [] → ¬ IsEnabled net w p → IsListed net w waiting → IsListed net w rest
turn_over net w p waiting rest e not listed q h = at (Contains-append_cases rest (p ∷ []) q (subst (λ xs. Contains xs q) e (listed q h)))
  where
    at : Contains rest q ⊎ Contains (p ∷ []) q → Contains rest q
    at (inl c) = c
    at (inr c) = absurd (not (subst (IsEnabled net w) (one_of p q c) h))

with_more : (o : Option ℕ) (xs : List ℕ) (q : ℕ) → Contains xs q → Contains (with_partner o xs) q
with_more None xs q c = c
with_more (Some r) xs q c = Contains-append_left xs (r ∷ []) q c

some_or_not : (o : Option ℕ) (q : ℕ) → (o ≡ Some q) ⊎ (o ≢ Some q)
some_or_not None q = inr (λ (e : None ≡ Some q). cc)
some_or_not (Some r) q = at (eqb_tells r q)
  where
    get : Option ℕ → ℕ
    get None = 0
    get (Some x) = x

    at : (((r == q) ≡ true) × (r ≡ q)) ⊎ (((r == q) ≡ false) × (r ≢ q)) → (Some r ≡ Some q) ⊎ (Some r ≢ Some q)
    at (inl i) = inl (ap Some i.1)
    at (inr i) = inr (λ e. i.1 (cc))

-- and an actor that has made a step is put back into it, with the one that may go on by it
pub turn_on : {L P : Type 0} (net : Rules L P) (w : World L P) (p : ℕ) (waiting rest : List ℕ) → waiting ≡ rest ++ p ∷ [] → IsListed net w waiting →
    IsListed net (next net w p) (with_partner (partner_of (action_at net w p)) (rest ++ p ∷ []))
turn_on net w p waiting rest e listed q h = at (eqb_tells p q)
  where
    o : Option ℕ
    o = partner_of (action_at net w p)

    by : (p ≢ q) → (o ≡ Some q) ⊎ (o ≢ Some q) → Contains (with_partner o (rest ++ p ∷ [])) q
    by n (inl i) = subst (λ m. Contains (with_partner m (rest ++ p ∷ [])) q) (sym i) (last_there (rest ++ p ∷ []) q)
    by n (inr i) = with_more o (rest ++ p ∷ []) q (subst (λ xs. Contains xs q) e (listed q (enabled_before net w p q n i h)))

    at : (((p == q) ≡ true) × (p ≡ q)) ⊎ (((p == q) ≡ false) × (p ≢ q)) → Contains (with_partner o (rest ++ p ∷ [])) q
    at (inl i) = with_more o (rest ++ p ∷ []) q (subst (Contains (rest ++ p ∷ [])) i.1 (last_there rest p))
    at (inr i) = by i.1 (some_or_not o q)

-- the work list has actors alone

all_first : {n : ℕ} (xs ys : List ℕ) → All (λ p. p < n) (xs ++ ys) → All (λ p. p < n) xs
all_first {n = n} xs ys h k d l = subst (λ m. m < n) (get_or_append_left xs ys d k l) (h k d (let e = length-append xs ys in omega arith))

pub partner_known : (b : Parts) (w : World (LocalState DatumId) DatumId) (p : ℕ) (q : ℕ) → IsWellFormed b → (a : Action) → action_at (tag_rules b) w p ≡ a → partner_of a ≡ Some q → q < processor_count b
partner_known b w p q good Internal e f = absurd (cc)
partner_known b w p q good (SendTo to) e f =
    let i = send_instr (tags b) b (instr_at b p (w.locals p)) (w.locals p) to e in
    subst (λ m. m < processor_count b) (i.3 ∙ same_Some _ _ f) (good.instrs p (w.locals p).place (Send i.0 i.1) i.2).0.0
partner_known b w p q good (Take from) e f =
    let i = take_instr (tags b) b (instr_at b p (w.locals p)) (w.locals p) from e in
    subst (λ m. m < processor_count b) (i.3 ∙ same_Some _ _ f) (good.instrs p (w.locals p).place (Recv i.0 i.1) i.2).0.0
partner_known b w p q good Ended e f = absurd (cc)
partner_known b w p q good Lacks e f = absurd (cc)

all_more : (n : ℕ) (o : Option ℕ) (xs : List ℕ) → ((q : ℕ) → o ≡ Some q → q < n) → All (λ p. p < n) xs → All (λ p. p < n) (with_partner o xs)
all_more n None xs h a = a
all_more n (Some q) xs h a = All-append (λ p. p < n) xs (q ∷ []) a (one (h q refl))
  where
    one : q < n → All (λ p. p < n) (q ∷ [])
    one l zero d m = l
    one l (suc k) d m = absurd (omega arith)

pub actors_after : (b : Parts) (w : World (LocalState DatumId) DatumId) (p : ℕ) (waiting rest : List ℕ) → IsWellFormed b → waiting ≡ rest ++ p ∷ [] → AreActors (tag_rules b) waiting →
    AreActors (tag_rules b) (with_partner (partner_of (action_at (tag_rules b) w p)) (rest ++ p ∷ []))
actors_after b w p waiting rest good e h =
    all_more (processor_count b) (partner_of (action_at (tag_rules b) w p)) (rest ++ p ∷ []) (λ q f. partner_known b w p q good (action_at (tag_rules b) w p) refl f) (subst (AreActors (tag_rules b)) e h)

pub actors_left : (b : Parts) (p : ℕ) (waiting rest : List ℕ) → waiting ≡ rest ++ p ∷ [] → AreActors (tag_rules b) waiting → AreActors (tag_rules b) rest
actors_left b p waiting rest e h = all_first rest (p ∷ []) (subst (AreActors (tag_rules b)) e h)

-- no run is so long that its steps couldn't be counted

sends_few : (p : ℕ) (code : List Instr) → sends_to p code ≤ length code
sends_few p [] = omega arith
sends_few p (Recv from d ∷ code) = let l = sends_few p code in omega arith
sends_few p (Exec t ∷ code) = let l = sends_few p code in omega arith
sends_few p (Send to d ∷ code) = at (to.0 == p) (sends_few p code)
  where
    at : (c : Bool) → sends_to p code ≤ length code → cond c (suc (sends_to p code)) (sends_to p code) ≤ length (Send to d ∷ code)
    at true l = omega arith
    at false l = omega arith

sum_few : (n m : ℕ) (f : ℕ → ℕ) → ((q : ℕ) → f q ≤ m) → sum_below n f ≤ n * m
sum_few zero m f h = omega arith
sum_few (suc n) m f h = let a = sum_few n m f h in let c = h n in let d : suc n * m ≡ n * m + m = suc-mul n m in omega arith

-- no more than 64 processors have 135,168 instructions each
few_steps : (b : Parts) → IsWellFormed b → step_count b < 18446744073709551615
few_steps b good =
    let a = sum_few (processor_count b) 135168 (λ p. length (code_at b p)) (λ p. good.short p) in
    let c = sum_few (processor_count b) 8650752 (all_sends b) few in
    let f = good.few_processors in
    omega arith
  where
    few : (p : ℕ) → all_sends b p ≤ 8650752
    few p =
        let a = sum_few (processor_count b) 135168 (λ q. sends_to p (code_at b q)) (λ q. let s = good.short q in let l = sends_few p (code_at b q) in omega arith) in
        let f = good.few_processors in
        omega arith

pub few_reached : (b : Parts) (w z : World (LocalState DatumId) DatumId) (n : ℕ) → IsWellFormed b → w ≡ start → Reaches (tag_rules b) w n z → n < 18446744073709551615
few_reached b w z n good s h =
    let r = subst (λ v. IsRun (tag_rules b) v h.run) s h.is_run in
    let l = run_le (tags b) b start h.run good r in
    let m = start_left DatumId b in
    let k = few_steps b good in
    let e = h.steps in
    omega arith

-- The work list of a rehearsal.

-- what a test says of a machine of these rules
pub not_enabled : {L P : Type 0} (net now : Rules L P) (w : World L P) (p : ℕ) (r : Bool) → now ≡ net → (IsTrue r ↔ IsEnabled now w p) → r ≡ false → ¬ IsEnabled net w p
not_enabled net now w p r same iff off h =
    let t : r ≡ true = iff.1 (subst (λ n. IsEnabled n w p) (sym same) h) in
    let f : false ≡ true = sym off ∙ t in
    cc

-- after a step of p
pub record GoneOn (b : Parts) (w0 v : World (LocalState DatumId) DatumId) (steps : ℕ) (waiting : List ℕ) : Type 0 where
  pub reached : Reaches (tag_rules b) w0 steps v
  pub listed : IsListed (tag_rules b) v waiting
  pub actors : AreActors (tag_rules b) waiting

pub gone_on : (b c : Parts) (w0 w v : World (LocalState DatumId) DatumId) (steps p : ℕ) (waiting rest new : List ℕ) → IsWellFormed b → tag_rules c ≡ tag_rules b → Reaches (tag_rules b) w0 steps w → IsListed (tag_rules b) w waiting → AreActors (tag_rules b) waiting →
    waiting ≡ rest ++ p ∷ [] → IsEnabled (tag_rules c) w p → v ≡ next (tag_rules c) w p → new ≡ with_partner (partner_of (action_at (tag_rules c) w p)) (rest ++ p ∷ []) → GoneOn b w0 v (steps + 1) new
gone_on b c w0 w v steps p waiting rest new good same reached listed actors e h is fresh = record {
  reached = subst (Reaches net w0 (steps + 1)) (sym here) (one_more net w0 w steps p reached can);
  listed = subst (λ u. IsListed net u new) (sym here) (subst (IsListed net (next net w p)) (sym list) (turn_on net w p waiting rest e listed));
  actors = subst (AreActors net) (sym list) (actors_after b w p waiting rest good e actors);
}
  where
    net : Rules (LocalState DatumId) DatumId
    net = tag_rules b

    can : IsEnabled net w p
    can = subst (λ n. IsEnabled n w p) same h

    here : v ≡ next net w p
    here = is ∙ ap (λ n. next n w p) same

    list : new ≡ with_partner (partner_of (action_at net w p)) (rest ++ p ∷ [])
    list = fresh ∙ ap (λ n. with_partner (partner_of (action_at n w p)) (rest ++ p ∷ [])) same

partner_length : (o : Option ℕ) (xs : List ℕ) → length (with_partner o xs) ≤ length xs + 1
partner_length None xs = omega arith
partner_length (Some q) xs = let e = length-append xs (q ∷ []) in omega arith

pub less_left : (b c : Parts) (w v : World (LocalState DatumId) DatumId) (p : ℕ) (waiting rest new : List ℕ) → IsWellFormed b → tag_rules c ≡ tag_rules b → waiting ≡ rest ++ p ∷ [] → IsEnabled (tag_rules c) w p → v ≡ next (tag_rules c) w p →
    new ≡ with_partner (partner_of (action_at (tag_rules c) w p)) (rest ++ p ∷ []) → 3 * steps_left b v + length new < 3 * steps_left b w + length waiting
less_left b c w v p waiting rest new good same e h is fresh =
    let s = step_left (tags b) b w v p good (subst (λ n. IsEnabled n w p) same h) (is ∙ ap (λ n. next n w p) same) in
    let l = partner_length (partner_of (action_at (tag_rules c) w p)) (rest ++ p ∷ []) in
    at _ _ _ _ _ s l (ap length fresh) (ap length e)
  where
    at : (x y m n k : ℕ) → x < y → m ≤ k + 1 → n ≡ m → {o : ℕ} → o ≡ k → 3 * x + n < 3 * y + o
    at x y m n k f g e1 e2 = omega (arith, f, g, e1, e2)

pub less_waiting : (n p : ℕ) (waiting rest : List ℕ) → waiting ≡ rest ++ p ∷ [] → n + length rest < n + length waiting
less_waiting n p waiting rest e = let f = ap length e in let g = length-append rest (p ∷ []) in omega arith

-- an empty work list: no processor can make a step
pub none_waiting : (b : Parts) (w0 z : World (LocalState DatumId) DatumId) (steps : ℕ) (waiting : List ℕ) → length waiting ≡ 0 → w0 ≡ start → Reaches (tag_rules b) w0 steps z → IsListed (tag_rules b) z waiting → IsOutcome (tag_rules b) start steps z
none_waiting b w0 z steps waiting e s reached listed =
    outcome (tag_rules b) start z steps (subst (λ w. Reaches (tag_rules b) w steps z) s reached)
    (λ p h. let c = listed p h in let l = c.1 in absurd (omega arith))

pub one_more_below : (n : ℕ) (xs ys : List ℕ) → ys ≡ xs ++ n ∷ [] → AreBelow n xs → AreBelow (n + 1) ys
one_more_below n xs ys e h = subst (AreBelow (n + 1)) (sym e) (record {
  listed = λ p l. at p (eqb_tells p n) l;
  within = All-append (λ p. p < n + 1) xs (n ∷ []) (λ k d l. let m = h.within k d l in omega arith) one;
})
  where
    at : (p : ℕ) → (((p == n) ≡ true) × (p ≡ n)) ⊎ (((p == n) ≡ false) × (p ≢ n)) → p < n + 1 → Contains (xs ++ n ∷ []) p
    at p (inl i) l = subst (Contains (xs ++ n ∷ [])) (sym i.1) (last_there xs n)
    at p (inr i) l = Contains-append_left xs (n ∷ []) p (h.listed p (let f = i.1 in omega (arith, f, l)))

    one : All (λ p. p < n + 1) (n ∷ [])
    one zero d l = omega arith
    one (suc k) d l = absurd (omega arith)

-- nothing was taken out of a work list, so that it is empty
pub nothing_left : (n : ℕ) (waiting rest : List ℕ) → n ≡ 0 → waiting ≡ rest ++ [] → rest ≡ take (n - 1) waiting → length waiting ≡ 0
nothing_left n waiting rest e f g = ap length (f ∙ ap (λ xs. xs ++ []) (g ∙ ap (λ m. take (m - 1) waiting) e))
