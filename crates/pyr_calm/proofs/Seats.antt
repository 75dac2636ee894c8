-- What the code keeps in a pass, after each passage.
use Rattle.std.proofs.Common.{◌≡◌, ◌≢◌, ℕ, ◌+◌, ◌<◌, ◌≤◌, max, ◌==◌, Bool, true, false, cond, List, [], ◌∷◌, ◌++◌, length, drop, get_or, slice_set, slice_get, Option, Some, None, ◌⊎◌, inl, inr, refl, sym, ◌∙◌, ap, subst, arith}
use Rattle.std.proofs.lemmas.Bool.{eq-eqb, ne_eqb}
use Rattle.std.proofs.lemmas.Bool.Decides.{eqb_tells}
use Rattle.std.proofs.lemmas.List.{get_or_default, length-set, length-append, get_or-set_same, get_or-set_other}
use mathlib.Core.Path.{fun_ext}
use Rattle.pyr_net.specs.Net.{put, changed, rest_of}
use Rattle.pyr_net.proofs.Update.{EqualOrNot, changed_same, changed_other}
use Rattle.pyr_calm.specs.declared.passage.Passage.{Passage}
use Rattle.pyr_calm.specs.declared.passage.Passage.TheVariants.{Send as Sends, Take as Takes}
use Rattle.pyr_calm.specs.Viewers.{View, taken_from, count_send, count_take, viewed}
use Rattle.pyr_calm.specs.Seats.{Seat, no_seat, seat_at, way_at, view_of, stamped, handed_over, sent_once, AllWithin, IsWithin, IsCounted, IsSeated}
use Rattle.pyr_calm.proofs.Changes.{put_at, put_kept, put_map}
use Rattle.pyr_calm.proofs.Showing.{AllWithin-append, AllWithin-rest, AllWithin-more, changed_within, put_within, taken_from-old}

-- the processors after one of them is set
seat_at-set : (seats : List Seat) (p : ℕ) (s : Seat) → p < length seats →
    seat_at (slice_set seats p s) ≡ put (seat_at seats) p s
unfolding put
seat_at-set seats p s l = fun_ext (λ q. at q (eqb_tells q p))
  where
    at : (q : ℕ) → EqualOrNot q p →
        seat_at (slice_set seats p s) q ≡ cond (q == p) s (seat_at seats q)
    at q (inl i) = rw (i.0, i.1) (get_or-set_same seats p s no_seat l)
    at q (inr i) = rw i.0 (get_or-set_other seats p q s no_seat i.1)

pub view_path : (x y : View) → x.takes ≡ y.takes → x.known ≡ y.known → x.ways ≡ y.ways →
    x.sent ≡ y.sent → x.most ≡ y.most → x ≡ y
view_path x y a b c d e =
    λ i. record { takes = a i; known = b i; ways = c i; sent = d i; most = e i }

abbrev view_by : (ℕ → Seat) → List ℕ → View
view_by g takes = record {
  takes = takes;
  known = λ r. (g r).known;
  ways = λ a b. way_at (g a).ways b;
  sent = λ r. (g r).sent;
  most = λ r. (g r).most;
}

-- one way of one processor is changed
ways_set : (g : ℕ → Seat) (p q : ℕ) (s : Seat) (xs : List ℕ) (f : List ℕ → List ℕ) →
    q < length (g p).ways → s.ways ≡ slice_set (g p).ways q xs → xs ≡ f (way_at (g p).ways q) →
    (a b : ℕ) →
    way_at (put g p s a).ways b ≡ changed (λ c d. way_at (g c).ways d) p q f a b
ways_set g p q s xs f l e h a b = at (put_at g p s a) (eqb_tells b q)
  where
    old : ℕ → ℕ → List ℕ
    old c d = way_at (g c).ways d

    at : ((a ≡ p) × (put g p s a ≡ s)) ⊎ ((a ≢ p) × (put g p s a ≡ g a)) → EqualOrNot b q →
        way_at (put g p s a).ways b ≡ changed old p q f a b
    at (inl i) (inl j) =
        ap (λ (t : Seat). way_at t.ways b) i.1 ∙ ap (λ ws. way_at ws b) e
        ∙ ap (way_at (slice_set (g p).ways q xs)) j.1
        ∙ get_or-set_same (g p).ways q xs [] l ∙ h
        ∙ sym (changed_same old p q f)
        ∙ ap (λ c. changed old p q f c q) (sym i.0) ∙ ap (changed old p q f a) (sym j.1)
    at (inl i) (inr j) =
        ap (λ (t : Seat). way_at t.ways b) i.1 ∙ ap (λ ws. way_at ws b) e
        ∙ get_or-set_other (g p).ways q b xs [] j.1 ∙ ap (λ c. old c b) (sym i.0)
        ∙ sym (changed_other old p q f a b (λ _. j.1))
    at (inr i) j =
        ap (λ (t : Seat). way_at t.ways b) i.1
        ∙ sym (changed_other old p q f a b (λ k _. i.0 k))

-- What holds of each processor, after one is set.

each_set : (F : ℕ → Seat → Type 0) (seats : List Seat) (p : ℕ) (s : Seat) → p < length seats →
    ((r : ℕ) → F r (seat_at seats r)) → F p s → (r : ℕ) → F r (seat_at (slice_set seats p s) r)
each_set F seats p s l h new r =
    subst (F r) (sym (λ i. seat_at-set seats p s l i r)) (at (put_at (seat_at seats) p s r))
  where
    at : ((r ≡ p) × (put (seat_at seats) p s r ≡ s))
        ⊎ ((r ≢ p) × (put (seat_at seats) p s r ≡ seat_at seats r)) →
        F r (put (seat_at seats) p s r)
    at (inl i) = subst (F r) (sym i.1) (subst (λ m. F m s) (sym i.0) new)
    at (inr i) = subst (F r) (sym i.1) (h r)

-- What a view keeps.

pub sent_within : (c : Bool) (n from : ℕ) (v : View) → IsWithin n v → IsWithin n (count_send c from v)
sent_within true n from v h = record { known = h.known; stamps = h.stamps }
sent_within false n from v h = h

pub taken_within : (c : Bool) (from to : ℕ) (ks : List ℕ) (v : View) → IsWithin (length v.takes) v →
    AllWithin (length v.takes) ks →
    IsWithin (length (count_take c from to ks v).takes) (count_take c from to ks v)
taken_within c from to [] v h k = h
taken_within true from to (x ∷ ks) v h k =
    let long : length (v.takes ++ from ∷ []) ≡ length v.takes + 1 = length-append v.takes (from ∷ []) in
    record {
      known = λ r.
          put_within v.known to (length v.takes + 1) (length (v.takes ++ from ∷ [])) r
          (let i = h.known r in omega (arith, i, long)) (omega (arith, long));
      stamps = λ a b.
          AllWithin-more (length v.takes) (length (v.takes ++ from ∷ [])) (v.ways a b)
          (omega (arith, long)) (h.stamps a b);
    }
taken_within false from to (x ∷ ks) v h k = record {
  known = λ r.
      put_within v.known to (max (v.known to) x) (length v.takes) r (h.known r)
      (let i = h.known to in let j : x ≤ length v.takes = k.0 in omega (arith, i, j));
  stamps = h.stamps;
}

pub viewed_within : (q : ℕ) (x : Passage) (v : View) → IsWithin (length v.takes) v →
    IsWithin (length (viewed q x v).takes) (viewed q x v)
viewed_within q (Sends from to) v h = at (to == q)
  where
    w : View
    w = record v { ways = changed v.ways from to (λ xs. xs ++ v.known from ∷ []) }

    within : IsWithin (length v.takes) w
    within = record {
      known = h.known;
      stamps =
          changed_within (length v.takes) v.ways from to (λ xs. xs ++ v.known from ∷ []) h.stamps
          (λ xs i. AllWithin-append (length v.takes) xs (v.known from) i (h.known from));
    }

    at : (c : Bool) → IsWithin (length (count_send c from w).takes) (count_send c from w)
    at true = sent_within true (length v.takes) from w within
    at false = within
viewed_within q (Takes from to) v h =
    taken_within (to == q) from to (v.ways from to) (record v { ways = changed v.ways from to rest_of })
    (record {
      known = h.known;
      stamps =
          changed_within (length v.takes) v.ways from to rest_of h.stamps
          (AllWithin-rest (length v.takes));
    })
    (h.stamps from to)

-- A send.

-- the sender after it
abbrev pub sender_by : Bool → ℕ → ℕ → List ℕ → Seat → Seat
sender_by true from to takes s = sent_once from takes (stamped s to)
sender_by false from to takes s = stamped s to

send_view_by : (c : Bool) (g : ℕ → Seat) (takes : List ℕ) (from to : ℕ) →
    to < length (g from).ways →
    view_by (put g from (sender_by c from to takes (g from))) takes
    ≡ count_send c from (record (view_by g takes) {
      ways = changed (view_by g takes).ways from to (λ xs. xs ++ (g from).known ∷ []);
    })
send_view_by true g takes from to l =
    let s = sender_by true from to takes (g from) in
    view_path _ _ refl
    (fun_ext (put_kept (λ (t : Seat). t.known) g from s refl))
    (fun_ext (λ a. fun_ext (λ b.
    ways_set g from to s (way_at (g from).ways to ++ (g from).known ∷ []) (λ xs. xs ++ (g from).known ∷ []) l refl refl a b)))
    (fun_ext (put_map (λ (t : Seat). t.sent) g from s))
    (fun_ext (put_map (λ (t : Seat). t.most) g from s))
send_view_by false g takes from to l =
    let s = sender_by false from to takes (g from) in
    view_path _ _ refl
    (fun_ext (put_kept (λ (t : Seat). t.known) g from s refl))
    (fun_ext (λ a. fun_ext (λ b.
    ways_set g from to s (way_at (g from).ways to ++ (g from).known ∷ []) (λ xs. xs ++ (g from).known ∷ []) l refl refl a b)))
    (fun_ext (put_kept (λ (t : Seat). t.sent) g from s refl))
    (fun_ext (put_kept (λ (t : Seat). t.most) g from s refl))

module _ (seats : List Seat) (takes : List ℕ) (q from to : ℕ) (l : from < length seats)
    (m : to < length seats) (h : IsSeated (length seats) seats takes) where
  abbrev sender : Seat
  sender = sender_by (to == q) from to takes (seat_at seats from)

  pub send_view : view_of (slice_set seats from sender) takes ≡ viewed q (Sends from to) (view_of seats takes)
  send_view =
      ap (λ g. view_by g takes) (seat_at-set seats from sender l)
      ∙ send_view_by (to == q) (seat_at seats) takes from to
      (let n = h.ways from l in omega (arith, n, m))

  -- the view has as many takes
  same_takes : (c : Bool) (v : View) → (count_send c from v).takes ≡ v.takes
  same_takes true v = refl
  same_takes false v = refl

  pub send_seated : IsSeated (length seats) (slice_set seats from sender) takes
  send_seated = record {
    count = length-set seats from sender;
    ways =
        each_set (λ p s. p < length seats → length s.ways ≡ length seats) seats from sender l
        h.ways (λ k. sender_ways (to == q) ∙ h.ways from l);
    within =
        subst (IsWithin (length takes)) (sym send_view)
        (subst (λ xs. IsWithin (length xs) (viewed q (Sends from to) (view_of seats takes)))
        (same_takes (to == q) _)
        (viewed_within q (Sends from to) (view_of seats takes) h.within));
    counted =
        each_set (λ p s. IsCounted p takes s) seats from sender l h.counted (sender_counted (to == q));
  }
    where
      s : Seat
      s = seat_at seats from

      sender_ways : (c : Bool) → length (sender_by c from to takes s).ways ≡ length s.ways
      sender_ways true = length-set s.ways to _
      sender_ways false = length-set s.ways to _

      sender_counted : (c : Bool) → IsCounted from takes (sender_by c from to takes s)
      sender_counted true = record { some = omega arith; received = refl }
      sender_counted false =
          record { some = (h.counted from).some; received = (h.counted from).received }

  pub send_few : (p : ℕ) → (seat_at (slice_set seats from sender) p).sent ≤ (seat_at seats p).sent + 1
  send_few =
      each_set (λ p s. s.sent ≤ (seat_at seats p).sent + 1) seats from sender l
      (λ p. let n = (seat_at seats p).sent in omega arith) (few (to == q))
    where
      few : (c : Bool) →
          (sender_by c from to takes (seat_at seats from)).sent ≤ (seat_at seats from).sent + 1
      few true = omega arith
      few false = let n = (seat_at seats from).sent in omega arith

  -- after a send: the view that it leads to, and what is kept
  pub record IsSentOn (new : List Seat) : Type 0 where
    pub view : view_of new takes ≡ viewed q (Sends from to) (view_of seats takes)
    pub seated : IsSeated (length seats) new takes

  sent_on : (new : Seat) → new ≡ sender → IsSentOn (slice_set seats from new)
  sent_on new e =
      subst (λ s. IsSentOn (slice_set seats from s)) (sym e)
      (record { view = send_view; seated = send_seated })

  -- a send to the receiver, whatever the default x of the read of the sender
  pub sent_own : (x before new : Seat) → before ≡ stamped (get_or seats from x) to →
      new ≡ sent_once from takes before → to ≡ q → IsSentOn (slice_set seats from new)
  sent_own x before new e f here =
      sent_on new
      (f
      ∙ ap (sent_once from takes)
      (e ∙ ap (λ (s : Seat). stamped s to) (get_or_default seats from x no_seat l))
      ∙ ap (λ c. sender_by c from to takes (seat_at seats from)) (sym (eq-eqb to q here)))

  -- and to another
  pub sent_other : (x new : Seat) → new ≡ stamped (get_or seats from x) to → to ≢ q →
      IsSentOn (slice_set seats from new)
  sent_other x new e apart =
      sent_on new
      (e ∙ ap (λ (s : Seat). stamped s to) (get_or_default seats from x no_seat l)
      ∙ ap (λ c. sender_by c from to takes (seat_at seats from)) (sym (ne_eqb to q apart)))

-- A take.

drop-rest : (xs : List ℕ) → drop 1 xs ≡ rest_of xs
drop-rest [] = refl
drop-rest (x ∷ xs) = refl

handed_view : (g : ℕ → Seat) (takes : List ℕ) (from to : ℕ) → to < length (g from).ways →
    view_by (put g from (handed_over (g from) to)) takes
    ≡ record (view_by g takes) { ways = changed (view_by g takes).ways from to rest_of }
handed_view g takes from to l =
    let s = handed_over (g from) to in
    view_path _ _ refl
    (fun_ext (put_kept (λ (t : Seat). t.known) g from s refl))
    (fun_ext (λ a. fun_ext (λ b.
    ways_set g from to s (drop 1 (way_at (g from).ways to)) rest_of l refl (drop-rest (way_at (g from).ways to)) a b)))
    (fun_ext (put_kept (λ (t : Seat). t.sent) g from s refl))
    (fun_ext (put_kept (λ (t : Seat). t.most) g from s refl))

-- the receiver of the parcel, which now has heard of so many takes
abbrev pub knowing : Seat → ℕ → Seat
knowing s n = record s { known = n }

known_view : (g : ℕ → Seat) (takes : List ℕ) (to n : ℕ) →
    view_by (put g to (knowing (g to) n)) takes
    ≡ record (view_by g takes) { known = put (view_by g takes).known to n }
known_view g takes to n =
    let s = knowing (g to) n in
    view_path _ _ refl
    (fun_ext (put_map (λ (t : Seat). t.known) g to s))
    (fun_ext (λ a. fun_ext (λ b. put_kept (λ (t : Seat). way_at t.ways b) g to s refl a)))
    (fun_ext (put_kept (λ (t : Seat). t.sent) g to s refl))
    (fun_ext (put_kept (λ (t : Seat). t.most) g to s refl))

module _ (seats : List Seat) (takes : List ℕ) (q from to : ℕ) (l : from < length seats)
    (m : to < length seats) (h : IsSeated (length seats) seats takes) where
  -- the processors after the front of the way is taken, and after the receiver has heard of n takes
  abbrev pub handed : List Seat
  handed = slice_set seats from (handed_over (seat_at seats from) to)

  abbrev pub told : ℕ → List Seat
  told n = slice_set handed to (knowing (seat_at handed to) n)

  count : length handed ≡ length seats
  count = length-set seats from _

  to_known : to < length handed
  to_known = omega (arith, m, count)

  handed_is : (takes' : List ℕ) → view_of handed takes'
      ≡ record (view_of seats takes') { ways = changed (view_of seats takes').ways from to rest_of }
  handed_is takes' =
      ap (λ g. view_by g takes') (seat_at-set seats from _ l)
      ∙ handed_view (seat_at seats) takes' from to (let n = h.ways from l in omega (arith, n, m))

  told_is : (n : ℕ) (takes' : List ℕ) → view_of (told n) takes'
      ≡ record (view_of seats takes') {
        ways = changed (view_of seats takes').ways from to rest_of;
        known = put (view_of seats takes').known to n;
      }
  told_is n takes' =
      ap (λ g. view_by g takes') (seat_at-set handed to _ to_known)
      ∙ known_view (seat_at handed) takes' to n
      ∙ ap (λ (v : View). record v { known = put v.known to n }) (handed_is takes')

  pub told_same : (front receiver new : Seat) (n : ℕ) →
      front ≡ handed_over (seat_at seats from) to →
      receiver ≡ seat_at (slice_set seats from front) to → new ≡ knowing receiver n →
      slice_set (slice_set seats from front) to new ≡ told n
  told_same front receiver new n e f g =
      let same : slice_set seats from front ≡ handed = ap (slice_set seats from) e in
      ap (λ xs. slice_set xs to new) same
      ∙ ap (slice_set handed to)
      (g ∙ ap (λ s. knowing s n) (f ∙ ap (λ xs. seat_at xs to) same))

  -- The three cases of what stands in front.

  abbrev taken : List ℕ → View
  taken ks =
      count_take (to == q) from to ks
      (record (view_of seats takes) { ways = changed (view_of seats takes).ways from to rest_of })

  none_by : (ks : List ℕ) → None ≡ slice_get ks 0 → view_of handed takes ≡ taken ks
  none_by [] e = handed_is takes
  none_by (k ∷ ks) e = absurd (cc)

  pub take_none : None ≡ slice_get (way_at (seat_at seats from).ways to) 0 →
      view_of handed takes ≡ viewed q (Takes from to) (view_of seats takes)
  take_none e = none_by (way_at (seat_at seats from).ways to) e

  own_by : (ks : List ℕ) (k n : ℕ) → Some k ≡ slice_get ks 0 → (to == q) ≡ true →
      n ≡ length takes + 1 → view_of (told n) (takes ++ from ∷ []) ≡ taken ks
  own_by [] k n e t same = absurd (cc)
  own_by (x ∷ ks) k n e t same =
      rw t (told_is n (takes ++ from ∷ [])
      ∙ ap (λ c. let v : View = record {
        takes = takes ++ from ∷ [];
        known = put (view_of seats takes).known to c;
        ways = changed (view_of seats takes).ways from to rest_of;
        sent = (view_of seats takes).sent;
        most = (view_of seats takes).most;
      } in v) same)

  pub take_own : (k n : ℕ) → Some k ≡ slice_get (way_at (seat_at seats from).ways to) 0 →
      (to == q) ≡ true → n ≡ length takes + 1 →
      view_of (told n) (takes ++ from ∷ []) ≡ viewed q (Takes from to) (view_of seats takes)
  take_own k n e t same = own_by (way_at (seat_at seats from).ways to) k n e t same

  other_by : (ks : List ℕ) (k n : ℕ) → Some k ≡ slice_get ks 0 → (to == q) ≡ false →
      n ≡ max (seat_at seats to).known k → view_of (told n) takes ≡ taken ks
  other_by [] k n e t same = absurd (cc)
  other_by (x ∷ ks) k n e t same =
      let front : k ≡ x = cc in
      rw t (told_is n takes
      ∙ ap (λ c. let v : View = record {
        takes = takes;
        known = put (view_of seats takes).known to c;
        ways = changed (view_of seats takes).ways from to rest_of;
        sent = (view_of seats takes).sent;
        most = (view_of seats takes).most;
      } in v) (same ∙ ap (max (seat_at seats to).known) front))

  pub take_other : (k n : ℕ) → Some k ≡ slice_get (way_at (seat_at seats from).ways to) 0 →
      (to == q) ≡ false → n ≡ max (seat_at seats to).known k →
      view_of (told n) takes ≡ viewed q (Takes from to) (view_of seats takes)
  take_other k n e t same = other_by (way_at (seat_at seats from).ways to) k n e t same

  -- What is kept.

  -- the receiver of a parcel knows what it knew, whether or not it is the sender
  pub same_known : (seat_at handed to).known ≡ (seat_at seats to).known
  same_known =
      each_set (λ p s. s.known ≡ (seat_at seats p).known) seats from _ l (λ p. refl) refl to

  handed_counted : (p : ℕ) → IsCounted p takes (seat_at handed p)
  handed_counted =
      each_set (λ p s. IsCounted p takes s) seats from _ l h.counted
      (record { some = (h.counted from).some; received = (h.counted from).received })

  handed_ways : (p : ℕ) → p < length seats → length (seat_at handed p).ways ≡ length seats
  handed_ways =
      each_set (λ p s. p < length seats → length s.ways ≡ length seats) seats from _ l h.ways
      (λ k. length-set (seat_at seats from).ways to _ ∙ h.ways from l)

  handed_few : (p : ℕ) → (seat_at handed p).sent ≤ (seat_at seats p).sent
  handed_few =
      each_set (λ p s. s.sent ≤ (seat_at seats p).sent) seats from _ l
      (λ p. let n = (seat_at seats p).sent in omega arith)
      (let n = (seat_at seats from).sent in omega arith)

  pub handed_seated : view_of handed takes ≡ viewed q (Takes from to) (view_of seats takes) →
      IsSeated (length seats) handed takes
  handed_seated e = record {
    count = count;
    ways = handed_ways;
    within = record {
      known = λ r.
          subst (λ n. n ≤ length takes)
          (sym (each_set (λ p s. s.known ≡ (seat_at seats p).known) seats from _ l (λ p. refl) refl r))
          (h.within.known r);
      stamps =
          subst (λ (v : View). (a b : ℕ) → AllWithin (length takes) (v.ways a b))
          (sym (handed_is takes))
          (changed_within (length takes) (view_of seats takes).ways from to rest_of h.within.stamps
          (AllWithin-rest (length takes)));
    };
    counted = handed_counted;
  }

  pub handed_short : (p : ℕ) → (seat_at handed p).sent ≤ (seat_at seats p).sent + 1
  handed_short p = let few = handed_few p in omega (arith, few)

  pub told_few : (n p : ℕ) → (seat_at (told n) p).sent ≤ (seat_at seats p).sent + 1
  told_few n =
      each_set (λ p s. s.sent ≤ (seat_at seats p).sent + 1) handed to _ to_known handed_short
      (handed_short to)

  -- after more takes, of which the counted ones are the first
  more_counted : (takes' : List ℕ) →
      ((p c : ℕ) → c ≤ length takes → taken_from p takes' c ≡ taken_from p takes c) →
      (p : ℕ) → IsCounted p takes' (seat_at handed p)
  more_counted takes' same p =
      let c = handed_counted p in
      let low : (seat_at handed p).counted ≤ length takes =
      (let some = c.some in
      let known = h.within.known p in
      let is = each_set (λ r s. s.known ≡ (seat_at seats r).known) seats from (handed_over (seat_at seats from) to) l (λ r. refl) refl p in
      omega (arith, some, known, is)) in
      record { some = c.some; received = c.received ∙ sym (same p (seat_at handed p).counted low) }

  pub told_seated : (n : ℕ) (takes' : List ℕ) →
      ((p c : ℕ) → c ≤ length takes → taken_from p takes' c ≡ taken_from p takes c) →
      (seat_at handed to).known ≤ n →
      view_of (told n) takes' ≡ viewed q (Takes from to) (view_of seats takes) →
      length takes' ≡ length (viewed q (Takes from to) (view_of seats takes)).takes →
      IsSeated (length seats) (told n) takes'
  told_seated n takes' same up e long = record {
    count = length-set handed to _ ∙ count;
    ways =
        each_set (λ p s. p < length seats → length s.ways ≡ length seats) handed to _ to_known
        handed_ways (handed_ways to);
    within =
        subst (λ k. IsWithin k (view_of (told n) takes')) (sym long)
        (subst (IsWithin (length (viewed q (Takes from to) (view_of seats takes)).takes)) (sym e)
        (viewed_within q (Takes from to) (view_of seats takes) h.within));
    counted =
        each_set (λ p s. IsCounted p takes' s) handed to _ to_known (more_counted takes' same)
        (let c = more_counted takes' same to in
        let some = c.some in
        record { some = omega (arith, some, up); received = c.received });
  }

  pub own_seated : (k n : ℕ) → Some k ≡ slice_get (way_at (seat_at seats from).ways to) 0 →
      (to == q) ≡ true → n ≡ length takes + 1 →
      IsSeated (length seats) (told n) (takes ++ from ∷ [])
  own_seated k n e t same =
      let view = take_own k n e t same in
      told_seated n (takes ++ from ∷ []) (λ p c low. taken_from-old p takes from c low)
      (let known = h.within.known to in let is = same_known in omega (arith, known, is, same)) view
      (ap (λ (v : View). length v.takes) view)

  pub other_seated : (k n : ℕ) → Some k ≡ slice_get (way_at (seat_at seats from).ways to) 0 →
      (to == q) ≡ false → n ≡ max (seat_at seats to).known k →
      IsSeated (length seats) (told n) takes
  other_seated k n e t same =
      let view = take_other k n e t same in
      told_seated n takes (λ p c low. refl) (let is = same_known in omega (arith, is, same)) view
      (ap (λ (v : View). length v.takes) view)

  -- after a take: the view that it leads to, and what is kept
  pub record IsTaken (new : List Seat) (takes' : List ℕ) : Type 0 where
    pub view : view_of new takes' ≡ viewed q (Takes from to) (view_of seats takes)
    pub seated : IsSeated (length seats) new takes'

  -- what the code reads, whatever the defaults x and y
  module _ (x y before : Seat) (e : before ≡ handed_over (get_or seats from x) to) where
    first : before ≡ handed_over (seat_at seats from) to
    first = e ∙ ap (λ (s : Seat). handed_over s to) (get_or_default seats from x no_seat l)

    top : (o : Option ℕ) → o ≡ slice_get (way_at (get_or seats from x).ways to) 0 →
        o ≡ slice_get (way_at (seat_at seats from).ways to) 0
    top o g =
        g ∙ ap (λ (s : Seat). slice_get (way_at s.ways to) 0) (get_or_default seats from x no_seat l)

    abbrev receiver : Seat
    receiver = get_or (slice_set seats from before) to y

    second : receiver ≡ seat_at (slice_set seats from before) to
    second =
        get_or_default (slice_set seats from before) to y no_seat
        (let n = length-set seats from before in omega (arith, m, n))

    -- a take of the receiver
    pub taken_own : (new : Seat) (k n : ℕ) (takes' : List ℕ) → new ≡ knowing receiver n →
        Some k ≡ slice_get (way_at (get_or seats from x).ways to) 0 → to ≡ q →
        n ≡ length takes + 1 → takes' ≡ takes ++ from ∷ [] →
        IsTaken (slice_set (slice_set seats from before) to new) takes'
    taken_own new k n takes' f g here same more =
        subst (IsTaken (slice_set (slice_set seats from before) to new)) (sym more)
        (subst (λ ss. IsTaken ss (takes ++ from ∷ []))
        (sym (told_same before receiver new n first second f)) (record {
          view = take_own k n (top (Some k) g) (eq-eqb to q here) same;
          seated = own_seated k n (top (Some k) g) (eq-eqb to q here) same;
        }))

    -- of another
    pub taken_other : (new : Seat) (k : ℕ) → new ≡ knowing receiver (max receiver.known k) →
        Some k ≡ slice_get (way_at (get_or seats from x).ways to) 0 → to ≢ q →
        IsTaken (slice_set (slice_set seats from before) to new) takes
    taken_other new k f g apart =
        subst (λ ss. IsTaken ss takes)
        (sym (told_same before receiver new (max receiver.known k) first second f)) (record {
          view = take_other k (max receiver.known k) (top (Some k) g) (ne_eqb to q apart) known;
          seated = other_seated k (max receiver.known k) (top (Some k) g) (ne_eqb to q apart) known;
        })
      where
        known : max receiver.known k ≡ max (seat_at seats to).known k
        known =
            ap (λ i. max i k)
            (ap (λ (s : Seat). s.known)
            (second ∙ ap (λ s. seat_at (slice_set seats from s) to) first)
            ∙ same_known)

    -- and of nobody
    pub taken_none : None ≡ slice_get (way_at (get_or seats from x).ways to) 0 →
        view_of (slice_set seats from before) takes
        ≡ viewed q (Takes from to) (view_of seats takes)
    taken_none g =
        ap (λ s. view_of (slice_set seats from s) takes) first ∙ take_none (top None g)
