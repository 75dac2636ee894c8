-- The nets of a pipeline side by side: a step of the whole is a step of one net, or the end of a
-- stage for one actor.
use Rattle.std.proofs.Common.{◌≡◌, ◌≢◌, ℕ, zero, suc, ◌<◌, ◌≤◌, List, [], ◌∷◌, ◌++◌, length, lt-ltb, le-ltb, refl, sym, ◌∙◌, ap, ap₂, subst, ◌⊎◌, inl, inr, arith, slice_get, Some, length-append}
use Rattle.std.specs.Prelude.{nat_lt, if◌then◌else◌}
use Rattle.std.proofs.lemmas.Bool.Decides.{eqb_tells}
use mathlib.Core.Path.{fun_ext}
use Rattle.pyr_net.specs.Net.{Rules, World, IsEnabled, IsPossible, state_after, local_after, lists_after, local_taken, rest_of, appended, action_at, next, put, changed}
use Rattle.pyr_net.specs.Pipeline.{Series, Staged, past_end, worked_on, pipeline, joined, gains, side_by_side, pipeline_start, IsSeries, IsReached, IsStaged}
use Rattle.pyr_net.specs.declared.action.Action.{Action}
use Rattle.pyr_net.specs.declared.action.Action.TheVariants.{Internal, Send, Take, Ended, Lacks}
use Rattle.pyr_net.proofs.Diamond.{world_path, locals_kept}
use Rattle.pyr_net.proofs.Front.{taken-append, rest_of-append}
use Rattle.pyr_net.proofs.Joined.{joined-same, joined-none, joined-push, joined-split, joined-some, joined-long}
use Rattle.pyr_net.proofs.Reach.{IsRun-append, end_of-append}
use Rattle.pyr_net.proofs.Update.{EqualOrNot, put_same, put_other, changed_same, changed_other, changed_at}
use Rattle.pyr_net.proofs.Waiting.{drained, ended_local, is_coming}

-- an actor in the whole is determined by its three parts
staged_path : {L G : Type 0} (s t : Staged L G) → s.stage ≡ t.stage → s.local ≡ t.local →
    s.gained ≡ t.gained → s ≡ t
staged_path s t e h g = λ i. record { stage = e i; local = h i; gained = g i }

-- actor p of the whole, at stage f
abbrev pub standing : {L P G : Type 0} → Series L P G → (ℕ → World L P) → ℕ → ℕ → Staged L G
standing series worlds p f =
    record { stage = f; local = (worlds f).locals p; gained = gains series worlds p f }

-- an actor has kept the same where it stands alike in each stage
gains-same : {L P G : Type 0} (series : Series L P G) (u v : ℕ → World L P) (p j : ℕ) →
    ((k : ℕ) → k < j → (u k).locals p ≡ (v k).locals p) → gains series u p j ≡ gains series v p j
gains-same series u v p zero h = refl
gains-same {L} {P} {G} series u v p (suc j) h =
    ap₂ (λ (xs : List G) (l : L). xs ++ series.gain j p l ∷ [])
    (gains-same series u v p j (λ k less. h k (omega arith))) (h j (omega arith))

-- an element of the first of two lists, and the one right behind it
front_at : {A : Type 0} (xs ys : List A) (k : ℕ) → k < length xs →
    slice_get (xs ++ ys) k ≡ slice_get xs k
front_at [] ys k l = absurd (omega arith)
front_at (x ∷ xs) ys zero l = refl
front_at (x ∷ xs) ys (suc k) l = front_at xs ys k (omega arith)

back : {A : Type 0} (xs : List A) (y : A) (k : ℕ) → length xs ≡ k →
    slice_get (xs ++ y ∷ []) k ≡ Some y
back [] y zero e = refl
back [] y (suc k) e = absurd (omega arith)
back (x ∷ xs) y zero e = absurd (omega arith)
back (x ∷ xs) y (suc k) e = back xs y k (omega arith)

length-gains : {L P G : Type 0} (series : Series L P G) (u : ℕ → World L P) (p j : ℕ) →
    length (gains series u p j) ≡ j
length-gains series u p zero = refl
length-gains series u p (suc j) =
    let e = length-gains series u p j in
    length-append (gains series u p j) _ ∙ omega arith

-- what is kept of each stage
pub gains-at : {L P G : Type 0} (series : Series L P G) (u : ℕ → World L P) (p j k : ℕ) → k < j →
    slice_get (gains series u p j) k ≡ Some (series.gain k p ((u k).locals p))
gains-at series u p zero k less = absurd (omega arith)
gains-at {L} {P} {G} series u p (suc j) k less = at (eqb_tells k j) (λ l. gains-at series u p j k l)
  where
    at : EqualOrNot k j →
        (k < j → slice_get (gains series u p j) k ≡ Some (series.gain k p ((u k).locals p))) →
        slice_get (gains series u p j ++ series.gain j p ((u j).locals p) ∷ []) k
        ≡ Some (series.gain k p ((u k).locals p))
    at (inl i) ih =
        subst (λ m.
        slice_get (gains series u p j ++ series.gain j p ((u j).locals p) ∷ []) m
        ≡ Some (series.gain m p ((u m).locals p))) (sym i.1)
        (back (gains series u p j) (series.gain j p ((u j).locals p)) j (length-gains series u p j))
    at (inr i) ih =
        let o : k ≢ j = i.1 in
        let l : k < j = omega arith in
        let n : length (gains series u p j) ≡ j = length-gains series u p j in
        front_at (gains series u p j) _ k (omega arith) ∙ ih l

-- two pairs are equal or not
pair : (a b p q : ℕ) → ((a ≡ p) × (b ≡ q)) ⊎ (a ≡ p → b ≢ q)
pair a b p q = at (eqb_tells a p) (eqb_tells b q)
  where
    at : EqualOrNot a p → EqualOrNot b q → ((a ≡ p) × (b ≡ q)) ⊎ (a ≡ p → b ≢ q)
    at (inl i) (inl j) = inl (i.1, j.1)
    at (inl i) (inr j) = inr (λ _. j.1)
    at (inr i) j = inr (λ e. absurd (i.1 e))

-- one number is below, at or above another
pub compare : (a b : ℕ) → (a < b) ⊎ ((a ≡ b) ⊎ (b < a))
compare a b = grind arith

-- What stays as it was where the net of one stage has come to another state.

-- where an actor stands alike in the two
local_stays : {L P : Type 0} (worlds : ℕ → World L P) (f : ℕ) (v : World L P) (a k : ℕ) →
    (k ≡ f → v.locals a ≡ (worlds f).locals a) → (put worlds f v k).locals a ≡ (worlds k).locals a
local_stays {L} {P} worlds f v a k h = at (eqb_tells k f)
  where
    at : EqualOrNot k f → (put worlds f v k).locals a ≡ (worlds k).locals a
    at (inl i) =
        subst (λ j. (put worlds f v j).locals a ≡ (worlds j).locals a) (sym i.1)
        (ap (λ (z : World L P). z.locals a) (put_same worlds f v) ∙ h i.1)
    at (inr i) = ap (λ (z : World L P). z.locals a) (put_other worlds f v k i.1)

-- a list that is alike in the two
list_stays : {L P : Type 0} (worlds : ℕ → World L P) (f : ℕ) (v : World L P) (a b k : ℕ) →
    (k ≡ f → v.lists a b ≡ (worlds f).lists a b) →
    (put worlds f v k).lists a b ≡ (worlds k).lists a b
list_stays {L} {P} worlds f v a b k h = at (eqb_tells k f)
  where
    at : EqualOrNot k f → (put worlds f v k).lists a b ≡ (worlds k).lists a b
    at (inl i) =
        subst (λ j. (put worlds f v j).lists a b ≡ (worlds j).lists a b) (sym i.1)
        (ap (λ (z : World L P). z.lists a b) (put_same worlds f v) ∙ h i.1)
    at (inr i) = ap (λ (z : World L P). z.lists a b) (put_other worlds f v k i.1)

-- what the whole makes of a take
taken_on : {L P G : Type 0} (series : Series L P G) (n p : ℕ) (s : Staged L G) (xs : List P) →
    local_taken ((pipeline series n).taken p) s xs
    ≡ record s { local = local_taken ((series.rules s.stage).taken p) s.local xs }
taken_on series n p s [] = refl
taken_on series n p s (x ∷ xs) = refl

-- One actor p at stage f.
module _ {L P G : Type 0} (series : Series L P G) (n steps : ℕ) (w : World L P)
    (h : IsSeries series n steps w) (worlds : ℕ → World L P) (stages : ℕ → ℕ)
    (st : IsStaged series n w worlds stages) (p f : ℕ) (actor : p < (series.rules 0).actors)
    (here : stages p ≡ f) (less : f < n) where
  abbrev whole : World (Staged L G) P
  whole = side_by_side series n worlds stages

  abbrev net : Rules L P
  net = series.rules f

  -- it does what it does in the net of its stage
  pub on_stage : action_at (pipeline series n) whole p ≡ past_end (action_at net (worlds f) p)
  on_stage = subst F (sym here) (rw (lt-ltb f n less) refl)
    where
      F : ℕ → Type 0
      F j =
          (if nat_lt j n then past_end ((series.rules j).action p ((worlds j).locals p)) else Ended)
          ≡ past_end (action_at net (worlds f) p)

  -- so it hasn't ended
  pub never_ended : action_at (pipeline series n) whole p ≢ Ended
  never_ended e = at (action_at net (worlds f) p) (sym on_stage ∙ e)
    where
      at : (k : Action) → past_end k ≢ Ended
      at Internal i = let no : Internal ≡ Ended = i in cc
      at (Send to) i = let no : Send to ≡ Ended = i in cc
      at (Take from) i = let no : Take from ≡ Ended = i in cc
      at Ended i = let no : Internal ≡ Ended = i in cc
      at Lacks i = let no : Lacks ≡ Ended = i in cc

  -- and takes only where the net does
  pub takes_on : (from : ℕ) → action_at (pipeline series n) whole p ≡ Take from →
      action_at net (worlds f) p ≡ Take from
  takes_on from e = at (action_at net (worlds f) p) (sym on_stage ∙ e)
    where
      at : (k : Action) → past_end k ≡ Take from → k ≡ Take from
      at Internal i = i
      at (Send to) i = i
      at (Take q) i = i
      at Ended i = absurd (let no : Internal ≡ Take from = i in cc)
      at Lacks i = i

  -- nothing is on its way to it below its stage
  below : (q k : ℕ) → q < (series.rules 0).actors → k < f → (worlds k).lists q p ≡ []
  below q k hq l =
      let i : k < n = omega arith in
      let l' : k < stages p = rw here l in
      drained (series.rules k) w (worlds k) (h.runs k i).run q p (h.runs k i).complete
      (st.reached k i) (rw (h.actors k) actor) (rw (h.actors k) hq) (st.passed p k actor l')

  -- and it has sent nothing above
  above : (q k : ℕ) → f < k → (worlds k).lists p q ≡ []
  above q k l = st.unsent p q k actor (rw here l)

  -- where the whole can do what it does, the net can
  pub possible_on : (k : Action) → action_at net (worlds f) p ≡ k → k ≢ Ended →
      IsPossible (pipeline series n) whole p (past_end k) → IsPossible net (worlds f) p k
  possible_on Internal e o i = tt
  possible_on (Send to) e o i =
      let a = joined-long n (λ k. (worlds k).lists p to) f less in
      let c : net.capacity p to ≡ (series.rules 0).capacity p to =
      ap (λ (g : ℕ → ℕ → ℕ). g p to) (h.capacity f) in
      rw c (omega (arith, a, i))
  possible_on (Take from) e o i =
      let t = joined-some n (λ k. (worlds k).lists from p) i in
      is_here t.0 t.1 t.2 (compare t.0 f)
    where
      from_actor : from < (series.rules 0).actors
      from_actor = h.takes f p from ((worlds f).locals p) e

      -- the sender is at a later stage, so it has ended in this one
      sent_later : f < stages from → 0 < length ((worlds f).lists from p)
      sent_later l =
          is_coming net w (worlds f) (h.runs f less).run from p (h.runs f less).complete
          (st.reached f less) (rw (h.actors f) actor) e (st.passed from f from_actor l)

      empty : (xs : List P) → xs ≡ [] → 0 < length xs → ⊥
      empty [] d l = omega arith
      empty (x ∷ xs) d l = let no : x ∷ xs ≡ [] = d in cc

      later : (k : ℕ) → f < k → 0 < length ((worlds k).lists from p) →
          (stages from < k) ⊎ ((stages from ≡ k) ⊎ (k < stages from)) → f < stages from
      later k l i (inl m) =
          absurd (empty ((worlds k).lists from p) (st.unsent from p k from_actor m) i)
      later k l i (inr (inl m)) = omega arith
      later k l i (inr (inr m)) = omega arith

      is_here : (k : ℕ) → k < n → 0 < length ((worlds k).lists from p) →
          (k < f) ⊎ ((k ≡ f) ⊎ (f < k)) → 0 < length ((worlds f).lists from p)
      is_here k _ i (inl l) =
          absurd (empty ((worlds k).lists from p) (below from k from_actor l) i)
      is_here k _ i (inr (inl l)) = subst (λ j. 0 < length ((worlds j).lists from p)) l i
      is_here k _ i (inr (inr l)) = sent_later (later k l i (compare (stages from) k))
  possible_on Ended e o i = absurd (o refl)
  possible_on Lacks e o i = absurd i

  -- a step of the whole that ends no stage is a step of the net
  pub step_on : (action_at net (worlds f) p ≢ Ended) → IsEnabled (pipeline series n) whole p →
      IsEnabled net (worlds f) p
  step_on o e = record {
    actor = rw (h.actors f) actor;
    possible =
        possible_on (action_at net (worlds f) p) refl o
        (subst (IsPossible (pipeline series n) whole p) on_stage e.possible);
  }

  -- the state of its net after it does this, and the states of all nets
  abbrev after : Action → World L P
  after k = state_after net (worlds f) p k

  abbrev stepped : Action → ℕ → World L P
  stepped k = put worlds f (after k)

  -- its list from another actor is at the front of what is on its way to it
  pub front : (q : ℕ) → q < (series.rules 0).actors →
      (rest : List P)
      × ((g : ℕ → List P) → ((k : ℕ) → k ≢ f → g k ≡ (worlds k).lists q p) →
      joined n g ≡ g f ++ rest)
  front q hq = joined-split n (λ k. (worlds k).lists q p) f less (λ k l. below q k hq l)

  -- its local state after a step
  local_on : (k : Action) → action_at net (worlds f) p ≡ k → IsPossible net (worlds f) p k →
      local_after (pipeline series n) whole p k (standing series worlds p f)
      ≡ record (standing series worlds p f) { local = local_after net (worlds f) p k ((worlds f).locals p) }
  local_on Internal e i = ap (worked_on series p (standing series worlds p f)) e
  local_on (Send to) e i = refl
  local_on (Take from) e i =
      let t = front from (h.takes f p from ((worlds f).locals p) e) in
      let xs = (worlds f).lists from p in
      let whole_is : whole.lists from p ≡ xs ++ t.0 =
      t.1 (λ k. (worlds k).lists from p) (λ k _. refl) in
      taken_on series n p (standing series worlds p f) (whole.lists from p)
      ∙ ap (λ l. record (standing series worlds p f) { local = l })
      (ap (local_taken (net.taken p) ((worlds f).locals p)) whole_is
      ∙ taken-append (net.taken p) ((worlds f).locals p) xs t.0 i)
  local_on Ended e i = absurd i
  local_on Lacks e i = absurd i

  -- no other actor's local state changes
  local_of_other : (k : Action) (a j : ℕ) → (a ≡ p → j ≢ f) →
      (stepped k j).locals a ≡ (worlds j).locals a
  local_of_other k a j o = local_stays worlds f (after k) a j at
    where
      at : j ≡ f → (after k).locals a ≡ (worlds f).locals a
      at m = locals_kept net (worlds f) p a k (λ e. o (sym e) m)

  -- each actor stands in the whole as it stands side by side
  locals_on : (k : Action) → action_at net (worlds f) p ≡ k → IsPossible net (worlds f) p k →
      (state_after (pipeline series n) whole p k).locals
      ≡ (side_by_side series n (stepped k) stages).locals
  locals_on k e i = fun_ext (λ a. at a (eqb_tells a p))
    where
      mine : standing series (stepped k) p f
          ≡ record (standing series worlds p f)
          { local = local_after net (worlds f) p k ((worlds f).locals p) }
      mine =
          staged_path _ _ refl
          (ap (λ (z : World L P). z.locals p) (put_same worlds f (after k))
          ∙ put_same (worlds f).locals p _)
          (gains-same series (stepped k) worlds p f
          (λ j l. local_of_other k p j (λ _. λ (m : j ≡ f). omega arith)))

      own : put whole.locals p (local_after (pipeline series n) whole p k (whole.locals p)) p
          ≡ standing series (stepped k) p (stages p)
      own =
          put_same whole.locals p _
          ∙ ap (λ j. local_after (pipeline series n) whole p k (standing series worlds p j)) here
          ∙ local_on k e i
          ∙ sym mine
          ∙ ap (standing series (stepped k) p) (sym here)

      at : (a : ℕ) → EqualOrNot a p →
          put whole.locals p (local_after (pipeline series n) whole p k (whole.locals p)) a
          ≡ standing series (stepped k) a (stages a)
      at a (inl m) =
          subst (λ b.
          put whole.locals p (local_after (pipeline series n) whole p k (whole.locals p)) b
          ≡ standing series (stepped k) b (stages b)) (sym m.1) own
      at a (inr m) =
          put_other whole.locals p _ a m.1
          ∙ sym (staged_path _ _ refl
          (local_of_other k a (stages a) (λ d. absurd (m.1 d)))
          (gains-same series (stepped k) worlds a (stages a)
          (λ j l. local_of_other k a j (λ d. absurd (m.1 d)))))

  -- and the lists of the whole are those of the nets one after another
  lists_on : (k : Action) → action_at net (worlds f) p ≡ k → IsPossible net (worlds f) p k →
      (a b : ℕ) →
      lists_after (pipeline series n) whole p k a b ≡ joined n (λ j. (stepped k j).lists a b)
  lists_on Internal e i a b =
      joined-same n _ _ (λ j l. sym (list_stays worlds f (after Internal) a b j (λ _. refl)))
  lists_on (Send to) e i a b = at (pair a b p to)
    where
      change : List P → List P
      change = appended (pipeline series n) p (whole.locals p)

      grown : joined n (λ j. (stepped (Send to) j).lists p to)
          ≡ whole.lists p to ++ net.parcel p ((worlds f).locals p) ∷ []
      grown =
          joined-push n (λ j. (worlds j).lists p to) (λ j. (stepped (Send to) j).lists p to) f
          (net.parcel p ((worlds f).locals p) ∷ []) less
          (λ j o. ap (λ (z : World L P). z.lists p to) (put_other worlds f (after (Send to)) j o))
          (ap (λ (z : World L P). z.lists p to) (put_same worlds f (after (Send to)))
          ∙ changed_same (worlds f).lists p to _)
          (λ j l. above to j l)

      own : changed whole.lists p to change p to
          ≡ joined n (λ j. (stepped (Send to) j).lists p to)
      own =
          changed_same whole.lists p to change
          ∙ ap (λ j. whole.lists p to ++ (series.rules j).parcel p ((worlds j).locals p) ∷ []) here
          ∙ sym grown

      at : ((a ≡ p) × (b ≡ to)) ⊎ (a ≡ p → b ≢ to) →
          changed whole.lists p to change a b
          ≡ joined n (λ j. (stepped (Send to) j).lists a b)
      at (inl m) = rw (m.0, m.1) own
      at (inr m) =
          changed_other whole.lists p to change a b m
          ∙ joined-same n _ _ (λ j l. sym (list_stays worlds f (after (Send to)) a b j
          (λ _. changed_other (worlds f).lists p to _ a b m)))
  lists_on (Take from) e i a b = at (pair a b from p)
    where
      shrunk : rest_of (whole.lists from p)
          ≡ joined n (λ j. (stepped (Take from) j).lists from p)
      shrunk =
          let t = front from (h.takes f p from ((worlds f).locals p) e) in
          ap rest_of (t.1 (λ k. (worlds k).lists from p) (λ k _. refl))
          ∙ rest_of-append ((worlds f).lists from p) t.0 i
          ∙ ap (λ xs. xs ++ t.0)
          (sym (ap (λ (z : World L P). z.lists from p) (put_same worlds f (after (Take from)))
          ∙ changed_same (worlds f).lists from p rest_of))
          ∙ sym (t.1 (λ j. (stepped (Take from) j).lists from p)
          (λ j o. ap (λ (z : World L P). z.lists from p) (put_other worlds f (after (Take from)) j o)))

      at : ((a ≡ from) × (b ≡ p)) ⊎ (a ≡ from → b ≢ p) →
          changed whole.lists from p rest_of a b
          ≡ joined n (λ j. (stepped (Take from) j).lists a b)
      at (inl m) = rw (m.0, m.1) (changed_same whole.lists from p rest_of ∙ shrunk)
      at (inr m) =
          changed_other whole.lists from p rest_of a b m
          ∙ joined-same n _ _ (λ j l. sym (list_stays worlds f (after (Take from)) a b j
          (λ _. changed_other (worlds f).lists from p rest_of a b m)))
  lists_on Ended e i a b = absurd i
  lists_on Lacks e i a b = absurd i

  -- where the net steps, so does the whole
  pub next_on : IsEnabled net (worlds f) p →
      next (pipeline series n) whole p
      ≡ side_by_side series n (put worlds f (next net (worlds f) p)) stages
  next_on e = ap (state_after (pipeline series n) whole p) on_stage ∙ by _ refl e.possible
    where
      by : (k : Action) → action_at net (worlds f) p ≡ k → IsPossible net (worlds f) p k →
          state_after (pipeline series n) whole p (past_end k)
          ≡ side_by_side series n (put worlds f (state_after net (worlds f) p k)) stages
      by Internal e i =
          world_path _ _ (locals_on Internal e i)
          (fun_ext (λ a. fun_ext (λ b. lists_on Internal e i a b)))
      by (Send to) e i =
          world_path _ _ (locals_on (Send to) e i)
          (fun_ext (λ a. fun_ext (λ b. lists_on (Send to) e i a b)))
      by (Take from) e i =
          world_path _ _ (locals_on (Take from) e i)
          (fun_ext (λ a. fun_ext (λ b. lists_on (Take from) e i a b)))
      by Ended e i = absurd i
      by Lacks e i = absurd i

  -- Where the net can make a step, so can the whole, if the list that a send goes to is no longer
  -- than the net's.
  enabled_by : (k : Action) → action_at net (worlds f) p ≡ k → IsPossible net (worlds f) p k →
      ((q : ℕ) → k ≡ Send q → whole.lists p q ≡ (worlds f).lists p q) →
      IsPossible (pipeline series n) whole p (past_end k)
  enabled_by Internal e i same = tt
  enabled_by (Send to) e i same =
      let c : net.capacity p to ≡ (series.rules 0).capacity p to =
      ap (λ (g : ℕ → ℕ → ℕ). g p to) (h.capacity f) in
      let s : length (whole.lists p to) ≡ length ((worlds f).lists p to) = ap length (same to refl) in
      omega (arith, c, i, s)
  enabled_by (Take from) e i same =
      let s : length ((worlds f).lists from p) ≤ length (whole.lists from p) =
      joined-long n (λ k. (worlds k).lists from p) f less in
      omega (arith, i, s)
  enabled_by Ended e i same = tt
  enabled_by Lacks e i same = i

  pub on_enabled : IsEnabled net (worlds f) p →
      ((q : ℕ) → action_at net (worlds f) p ≡ Send q → whole.lists p q ≡ (worlds f).lists p q) →
      IsEnabled (pipeline series n) whole p
  on_enabled e same = record {
    actor = actor;
    possible =
        subst (IsPossible (pipeline series n) whole p) (sym on_stage)
        (enabled_by (action_at net (worlds f) p) refl e.possible same);
  }

  -- The end of a stage.

  -- the stage of each actor after it
  abbrev pub moved : ℕ → ℕ
  moved = put stages p (suc f)

  -- it is always possible
  pub end_enabled : action_at net (worlds f) p ≡ Ended → IsEnabled (pipeline series n) whole p
  end_enabled e = record {
    actor = actor;
    possible = rw (on_stage ∙ ap past_end e) tt;
  }

  -- the actor begins the next stage at its start
  begins : action_at net (worlds f) p ≡ Ended →
      series.renewed ((worlds f).locals p) ≡ (worlds (suc f)).locals p
  begins e =
      ap series.renewed
      (ended_local net w (worlds f) (h.runs f less).run p (h.runs f less).complete
      (st.reached f less) e)
      ∙ h.renews f p less actor
      ∙ sym (st.waits p (suc f) actor (rw here (omega arith)))

  -- and nothing else is another than before
  pub next_end : action_at net (worlds f) p ≡ Ended →
      next (pipeline series n) whole p ≡ side_by_side series n worlds moved
  next_end e =
      ap (state_after (pipeline series n) whole p) (on_stage ∙ ap past_end e)
      ∙ world_path _ _ (fun_ext (λ a. at a (eqb_tells a p))) refl
    where
      own : put whole.locals p (local_after (pipeline series n) whole p Internal (whole.locals p)) p
          ≡ standing series worlds p (moved p)
      own =
          put_same whole.locals p _
          ∙ ap (λ j. local_after (pipeline series n) whole p Internal (standing series worlds p j)) here
          ∙ ap (worked_on series p (standing series worlds p f)) e
          ∙ staged_path _ (standing series worlds p (suc f)) refl (begins e) refl
          ∙ ap (standing series worlds p) (sym (put_same stages p (suc f)))

      at : (a : ℕ) → EqualOrNot a p →
          put whole.locals p (local_after (pipeline series n) whole p Internal (whole.locals p)) a
          ≡ standing series worlds a (moved a)
      at a (inl m) =
          subst (λ b.
          put whole.locals p (local_after (pipeline series n) whole p Internal (whole.locals p)) b
          ≡ standing series worlds b (moved b)) (sym m.1) own
      at a (inr m) =
          put_other whole.locals p _ a m.1
          ∙ ap (standing series worlds a) (sym (put_other stages p (suc f) a m.1))

  -- What holds of the parts holds after both kinds of step.

  -- a list from another actor that is empty stays so
  still_empty : (k : Action) (a b : ℕ) → a ≢ p → (worlds f).lists a b ≡ [] →
      lists_after net (worlds f) p k a b ≡ []
  still_empty Internal a b o e = e
  still_empty (Send to) a b o e =
      changed_other (worlds f).lists p to _ a b (λ d. absurd (o d)) ∙ e
  still_empty (Take from) a b o e = at (changed_at (worlds f).lists from p rest_of a b)
    where
      at : (changed (worlds f).lists from p rest_of a b ≡ (worlds f).lists a b)
          ⊎ ((a ≡ from) × (b ≡ p)
          × (changed (worlds f).lists from p rest_of a b ≡ rest_of ((worlds f).lists a b))) →
          changed (worlds f).lists from p rest_of a b ≡ []
      at (inl m) = m ∙ e
      at (inr m) = m.2 ∙ ap rest_of e
  still_empty Ended a b o e = e
  still_empty Lacks a b o e = e

  pub kept_on : IsEnabled net (worlds f) p →
      IsStaged series n w (put worlds f (next net (worlds f) p)) stages
  kept_on e = record {
    reached = λ k l. reached k l (eqb_tells k f);
    unbegun = λ k l. put_other worlds f _ k (λ (m : k ≡ f). omega arith) ∙ st.unbegun k l;
    within = st.within;
    passed = λ a k ha l.
        ap ((series.rules k).action a)
        (local_of_other j a k (λ d m. let l' : k < stages p = subst (λ b. k < stages b) d l in omega arith))
        ∙ st.passed a k ha l;
    waits = λ a k ha l.
        local_of_other j a k (λ d m. let l' : stages p < k = subst (λ b. stages b < k) d l in omega arith)
        ∙ st.waits a k ha l;
    unsent = λ a b k ha l. unsent a b k ha l (eqb_tells k f);
  }
    where
      j : Action
      j = action_at net (worlds f) p

      v : World L P
      v = next net (worlds f) p

      reached : (k : ℕ) → k < n → EqualOrNot k f → IsReached (series.rules k) w (put worlds f v k)
      reached k l (inl m) =
          subst (λ i. IsReached (series.rules i) w (put worlds f v i)) (sym m.1)
          (let r = st.reached f less in
          let e' = subst (λ z. IsEnabled net z p) (sym r.ends) e in
          record {
            run = r.run ++ p ∷ [];
            is_run = IsRun-append net w r.run p r.is_run e';
            ends =
                end_of-append net w r.run p
                ∙ ap (λ z. next net z p) r.ends
                ∙ sym (put_same worlds f v);
          })
      reached k l (inr m) =
          subst (IsReached (series.rules k) w) (sym (put_other worlds f v k m.1)) (st.reached k l)

      unsent : (a b k : ℕ) → a < (series.rules 0).actors → stages a < k → EqualOrNot k f →
          (put worlds f v k).lists a b ≡ []
      unsent a b k ha l (inl m) =
          subst (λ i. (put worlds f v i).lists a b ≡ []) (sym m.1)
          (ap (λ (z : World L P). z.lists a b) (put_same worlds f v)
          ∙ still_empty j a b
          (λ d. let l' : stages p < k = subst (λ c. stages c < k) d l in let m' = m.1 in omega arith)
          (st.unsent a b f ha (subst (λ i. stages a < i) m.1 l)))
      unsent a b k ha l (inr m) =
          ap (λ (z : World L P). z.lists a b) (put_other worlds f v k m.1) ∙ st.unsent a b k ha l

  pub kept_end : action_at net (worlds f) p ≡ Ended → IsStaged series n w worlds moved
  kept_end e = record {
    reached = st.reached;
    unbegun = st.unbegun;
    within = λ a ha. within a ha (eqb_tells a p);
    passed = λ a k ha l. passed a k ha l (eqb_tells a p);
    waits = λ a k ha l. st.waits a k ha (waited a k l (eqb_tells a p));
    unsent = λ a b k ha l. st.unsent a b k ha (waited a k l (eqb_tells a p));
  }
    where
      is_moved : (a : ℕ) → a ≡ p → moved a ≡ suc f
      is_moved a d = ap moved d ∙ put_same stages p (suc f)

      is_kept : (a : ℕ) → a ≢ p → moved a ≡ stages a
      is_kept a o = put_other stages p (suc f) a o

      within : (a : ℕ) → a < (series.rules 0).actors → EqualOrNot a p → moved a ≤ n
      within a ha (inl m) = rw (is_moved a m.1) (omega arith)
      within a ha (inr m) = rw (is_kept a m.1) (st.within a ha)

      passed : (a k : ℕ) → a < (series.rules 0).actors → k < moved a → EqualOrNot a p →
          action_at (series.rules k) (worlds k) a ≡ Ended
      passed a k ha l (inl m) =
          subst (λ b. action_at (series.rules k) (worlds k) b ≡ Ended) (sym m.1)
          (own (eqb_tells k f))
        where
          l' : k < suc f
          l' = subst (λ i. k < i) (is_moved a m.1) l

          own : EqualOrNot k f → action_at (series.rules k) (worlds k) p ≡ Ended
          own (inl i) =
              subst (λ b. action_at (series.rules b) (worlds b) p ≡ Ended) (sym i.1) e
          own (inr i) =
              let d = i.1 in
              let l'' = l' in
              st.passed p k actor (rw here (omega arith))
      passed a k ha l (inr m) = st.passed a k ha (subst (λ i. k < i) (is_kept a m.1) l)

      waited : (a k : ℕ) → moved a < k → EqualOrNot a p → stages a < k
      waited a k l (inl m) =
          let l' : suc f < k = subst (λ i. i < k) (is_moved a m.1) l in
          let s : stages a ≡ f = ap stages m.1 ∙ here in
          omega arith
      waited a k l (inr m) = subst (λ i. i < k) (is_kept a m.1) l

-- at the start all nets are at their start, and all actors at the first
pub start_staged : {L P G : Type 0} (series : Series L P G) (n steps : ℕ) (w : World L P) →
    IsSeries series n steps w → IsStaged series n w (λ _. w) (λ _. 0)
start_staged series n steps w h = record {
  reached = λ k l. record { run = []; is_run = tt; ends = refl };
  unbegun = λ k l. refl;
  within = λ p hp. omega arith;
  passed = λ p k hp l. absurd (omega arith);
  waits = λ p k hp l. refl;
  unsent = λ p q k hp l. h.empty p q;
}

pub start_same : {L P G : Type 0} (series : Series L P G) (n steps : ℕ) (w : World L P) →
    IsSeries series n steps w → pipeline_start w ≡ side_by_side series n (λ _. w) (λ _. 0)
start_same series n steps w h =
    world_path _ _ refl
    (fun_ext (λ p. fun_ext (λ q. h.empty p q ∙ sym (joined-none n _ (λ k l. h.empty p q)))))

-- an actor behind the last stage has ended
pub ended_behind : {L P G : Type 0} (series : Series L P G) (n : ℕ) (worlds : ℕ → World L P)
    (stages : ℕ → ℕ) (p : ℕ) → n ≤ stages p →
    action_at (pipeline series n) (side_by_side series n worlds stages) p ≡ Ended
ended_behind series n worlds stages p l = rw (le-ltb (stages p) n l) refl
