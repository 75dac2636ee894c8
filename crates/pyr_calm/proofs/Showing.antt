-- One pass for a receiver shows what the pass for each of its channels shows.
use Rattle.std.proofs.Common.{◌≡◌, ◌≢◌, ℕ, zero, suc, ◌+◌, ◌-◌, ◌≤◌, max, ◌==◌, ◌&&◌, Bool, true, false, cond, List, [], ◌∷◌, ◌++◌, map, length, take, length-append, refl, sym, ◌∙◌, ap, subst, ◌⊎◌, inl, inr, arith}
use Rattle.std.proofs.lemmas.Bool.{eq-eqb, eqb-true}
use Rattle.std.proofs.lemmas.Bool.Decides.{eqb_tells, leb_tells}
use Rattle.std.proofs.lemmas.List.{map-append, take-append-le, take_all}
use Rattle.std.proofs.lemmas.List.Sums.{sum_by-append, sum_by-cons}
use Rattle.std.specs.List.{count_by, sum_by}
use Rattle.pyr_net.specs.Net.{put, changed, rest_of, local_taken}
use Rattle.pyr_net.proofs.Update.{EqualOrNot, put_same, put_other, changed_at}
use Rattle.pyr_calm.specs.declared.passage.Passage.{Passage}
use Rattle.pyr_calm.specs.declared.passage.Passage.TheVariants.{Send as Sends, Take as Takes}
use Rattle.pyr_calm.specs.Tracked.{one_if, most_by, heard}
use Rattle.pyr_calm.specs.Passages.{Watch, fresh_watch, watched, watched_all}
use Rattle.pyr_calm.specs.Seats.{AllWithin}
use Rattle.pyr_calm.specs.Viewers.{View, fresh_view, taken_from, count_send, count_take, viewed, viewed_all}
use Rattle.pyr_calm.proofs.Changes.{put_at, put_kept, changed_image, pair_tells, SamePairOrNot, WithinOrNot}
use Rattle.pyr_calm.proofs.Projected.{rest-map}

pub AllWithin-append : (n : ℕ) (xs : List ℕ) (x : ℕ) → AllWithin n xs → x ≤ n →
    AllWithin n (xs ++ x ∷ [])
AllWithin-append n [] x h e = (e, tt)
AllWithin-append n (y ∷ ys) x h e = (h.0, AllWithin-append n ys x h.1 e)

pub AllWithin-rest : (n : ℕ) (xs : List ℕ) → AllWithin n xs → AllWithin n (rest_of xs)
AllWithin-rest n [] h = tt
AllWithin-rest n (x ∷ xs) h = h.1

pub AllWithin-more : (m n : ℕ) (xs : List ℕ) → m ≤ n → AllWithin m xs → AllWithin n xs
AllWithin-more m n [] e h = tt
AllWithin-more m n (x ∷ xs) e h =
    (let i : x ≤ m = h.0 in omega arith, AllWithin-more m n xs e h.1)

plus_none : (n : ℕ) → n + 0 ≡ n
plus_none n = omega arith

-- Counts of takes.

counted-mono : (f : ℕ → ℕ) (xs : List ℕ) (m n : ℕ) → m ≤ n →
    sum_by f (take m xs) ≤ sum_by f (take n xs)
counted-mono f xs zero n e = omega arith
counted-mono f [] (suc m) zero e = omega arith
counted-mono f [] (suc m) (suc n) e = omega arith
counted-mono f (x ∷ xs) (suc m) zero e = absurd (omega arith)
counted-mono f (x ∷ xs) (suc m) (suc n) e =
    let ih = counted-mono f xs m n (omega arith) in
    let less : sum_by f (take (suc m) (x ∷ xs)) ≡ f x + sum_by f (take m xs) =
    sum_by-cons f x (take m xs) in
    let more : sum_by f (take (suc n) (x ∷ xs)) ≡ f x + sum_by f (take n xs) =
    sum_by-cons f x (take n xs) in
    omega arith

-- the greater of two numbers counts the greater number
taken_from-max : (p : ℕ) (takes : List ℕ) (m n : ℕ) →
    max (taken_from p takes m) (taken_from p takes n) ≡ taken_from p takes (max m n)
taken_from-max p takes m n = at (leb_tells m n)
  where
    f : ℕ → ℕ
    f s = cond (p == s) 1 0

    at : WithinOrNot m n →
        max (taken_from p takes m) (taken_from p takes n) ≡ taken_from p takes (max m n)
    at (inl i) =
        let e : max m n ≡ n = omega arith in
        let more : taken_from p takes m ≤ taken_from p takes n = counted-mono f takes m n i.1 in
        rw e (omega arith)
    at (inr i) =
        let e : max m n ≡ m = omega arith in
        let more : taken_from p takes n ≤ taken_from p takes m =
        counted-mono f takes n m (omega arith) in
        rw e (omega arith)

-- a take more changes no count within those before
pub taken_from-old : (p : ℕ) (takes : List ℕ) (from n : ℕ) → n ≤ length takes →
    taken_from p (takes ++ from ∷ []) n ≡ taken_from p takes n
taken_from-old p takes from n e = ap (count_by (λ s. p == s)) (take-append-le n takes (from ∷ []) e)

taken_from-olds : (p : ℕ) (takes : List ℕ) (from : ℕ) (xs : List ℕ) → AllWithin (length takes) xs →
    map (taken_from p takes) xs ≡ map (taken_from p (takes ++ from ∷ [])) xs
taken_from-olds p takes from [] h = refl
taken_from-olds p takes from (x ∷ xs) h =
    rw (taken_from-old p takes from x h.0)
    (ap (λ ys. taken_from p takes x ∷ ys) (taken_from-olds p takes from xs h.1))

-- and the whole count is one more, or none
taken_from-new : (p : ℕ) (takes : List ℕ) (from : ℕ) →
    taken_from p (takes ++ from ∷ []) (length takes + 1)
    ≡ taken_from p takes (length takes) + one_if (p == from)
taken_from-new p takes from =
    let longer = length-append takes (from ∷ []) in
    ap (sum_by f) (take_all (length takes + 1) (takes ++ from ∷ []) (omega arith))
    ∙ sum_by-append f takes (from ∷ [])
    ∙ ap (λ n. sum_by f takes + n) (last (p == from))
    ∙ ap (λ xs. sum_by f xs + one_if (p == from))
    (sym (take_all (length takes) takes (omega arith)))
  where
    f : ℕ → ℕ
    f s = cond (p == s) 1 0

    last : (b : Bool) → sum_by (λ s. cond b 1 0) (from ∷ []) ≡ one_if b
    last true = refl
    last false = refl

-- what the one shows of the other
pub record Shows (p q : ℕ) (v : View) (w : Watch) : Type 0 where
  pub known : (r : ℕ) → w.known r ≡ taken_from p v.takes (v.known r)
  pub ways : (a b : ℕ) → w.ways a b ≡ map (taken_from p v.takes) (v.ways a b)
  pub sent : w.sent ≡ v.sent p
  pub most : w.most ≡ v.most p
  -- the receiver knows of all its takes, and nobody of more
  pub own : v.known q ≡ length v.takes
  pub within : (r : ℕ) → v.known r ≤ length v.takes
  pub stamps : (a b : ℕ) → AllWithin (length v.takes) (v.ways a b)

-- Changes at one place.

-- of functions of which the first is an image of the second
put_image : {A B : Type 0} (f : B → A) (g : ℕ → A) (g' : ℕ → B) (p : ℕ) (x : A) (y : B) (a : ℕ) →
    g a ≡ f (g' a) → x ≡ f y → put g p x a ≡ f (put g' p y a)
put_image f g g' p x y a e d = at (eqb_tells a p)
  where
    at : EqualOrNot a p → put g p x a ≡ f (put g' p y a)
    at (inl i) = rw i.1 (put_same g p x ∙ d ∙ ap f (sym (put_same g' p y)))
    at (inr i) = put_other g p x a i.1 ∙ e ∙ ap f (sym (put_other g' p y a i.1))

pub put_within : (f : ℕ → ℕ) (p x n a : ℕ) → f a ≤ n → x ≤ n → put f p x a ≤ n
put_within f p x n a old new = at (put_at f p x a)
  where
    at : ((a ≡ p) × (put f p x a ≡ x)) ⊎ ((a ≢ p) × (put f p x a ≡ f a)) → put f p x a ≤ n
    at (inl i) = rw i.1 new
    at (inr i) = rw i.1 old

pub changed_within : (n : ℕ) (s : ℕ → ℕ → List ℕ) (p q : ℕ) (f : List ℕ → List ℕ) →
    ((a b : ℕ) → AllWithin n (s a b)) → ((xs : List ℕ) → AllWithin n xs → AllWithin n (f xs)) →
    (a b : ℕ) → AllWithin n (changed s p q f a b)
changed_within n s p q f old new a b = at (changed_at s p q f a b)
  where
    at : (changed s p q f a b ≡ s a b)
        ⊎ ((a ≡ p) × (b ≡ q) × (changed s p q f a b ≡ f (s a b))) →
        AllWithin n (changed s p q f a b)
    at (inl i) = subst (AllWithin n) (sym i) (old a b)
    at (inr i) = subst (AllWithin n) (sym i.2) (new (s a b) (old a b))

not_pair : (a b p q : ℕ) → (a ≡ p → b ≢ q) → ((a == p) && (b == q)) ≡ false
not_pair a b p q h = at (pair_tells a b p q)
  where
    at : SamePairOrNot a b p q → ((a == p) && (b == q)) ≡ false
    at (inl i) = absurd (h i.1 i.2)
    at (inr i) = i.0

module _ (p q : ℕ) (v : View) (w : Watch) (h : Shows p q v w) where
  abbrev count : ℕ → ℕ
  count = taken_from p v.takes

  module _ (from to : ℕ) where
    -- Sends.

    sent_ways : (a b : ℕ) →
        changed w.ways from to (λ xs. xs ++ w.known from ∷ []) a b
        ≡ map count (changed v.ways from to (λ xs. xs ++ v.known from ∷ []) a b)
    sent_ways a b =
        changed_image (map count) w.ways v.ways from to
        (λ xs. xs ++ w.known from ∷ []) (λ xs. xs ++ v.known from ∷ []) a b (h.ways a b)
        (λ _ _.
        ap (λ n. map count (v.ways a b) ++ n ∷ []) (h.known from)
        ∙ sym (map-append count (v.ways a b) (v.known from ∷ [])))

    sent_stamps : (a b : ℕ) →
        AllWithin (length v.takes) (changed v.ways from to (λ xs. xs ++ v.known from ∷ []) a b)
    sent_stamps =
        changed_within (length v.takes) v.ways from to (λ xs. xs ++ v.known from ∷ []) h.stamps
        (λ xs i. AllWithin-append (length v.takes) xs (v.known from) i (h.within from))

    abbrev view_sent : View
    view_sent = record v { ways = changed v.ways from to (λ xs. xs ++ v.known from ∷ []) }

    abbrev watch_sent : Bool → Watch
    watch_sent c = record {
      known = w.known;
      ways = changed w.ways from to (λ xs. xs ++ w.known from ∷ []);
      sent = w.sent + one_if c;
      most = most_by c (w.known from) w.sent w.most;
    }

    -- a send into the channel
    send_own : p ≡ from → Shows p q (count_send true from view_sent) (watch_sent true)
    send_own e = record {
      known = h.known;
      ways = sent_ways;
      sent =
          ap (λ n. n + 1) (h.sent ∙ ap v.sent e)
          ∙ sym (ap (put v.sent from _) e ∙ put_same v.sent from _);
      most =
          same (h.most ∙ ap v.most e) (h.sent ∙ ap v.sent e)
          (h.known from ∙ ap (λ m. taken_from m v.takes (v.known from)) e)
          ∙ sym (ap (put v.most from _) e ∙ put_same v.most from _);
      own = h.own;
      within = h.within;
      stamps = sent_stamps;
    }
      where
        same : {a b c d e f : ℕ} → a ≡ b → c ≡ d → e ≡ f → max a (c + 1 - e) ≡ max b (d + 1 - f)
        same x y z = λ i. max (x i) (y i + 1 - z i)

    -- to q from another, and to another
    send_other : (c : Bool) → (c ≡ true → p ≢ from) →
        Shows p q (count_send c from view_sent) (watch_sent false)
    send_other true apart = record {
      known = h.known;
      ways = sent_ways;
      sent = plus_none w.sent ∙ h.sent ∙ sym (put_other v.sent from _ p (apart refl));
      most = h.most ∙ sym (put_other v.most from _ p (apart refl));
      own = h.own;
      within = h.within;
      stamps = sent_stamps;
    }
    send_other false apart = record {
      known = h.known;
      ways = sent_ways;
      sent = plus_none w.sent ∙ h.sent;
      most = h.most;
      own = h.own;
      within = h.within;
      stamps = sent_stamps;
    }

    send : Shows p q (viewed q (Sends from to) v) (watched p q (Sends from to) w)
    send = at (pair_tells p q from to)
      where
        at : SamePairOrNot p q from to →
            Shows p q (count_send (to == q) from view_sent)
            (watch_sent ((p == from) && (q == to)))
        at (inl i) = rw (i.0, eq-eqb to q (sym i.2)) (send_own i.1)
        at (inr i) =
            rw i.0 (send_other (to == q) (λ e j. i.1 j (sym (eqb-true to q e))))

    -- Takes.

    taken_ways : (a b : ℕ) →
        changed w.ways from to rest_of a b ≡ map count (changed v.ways from to rest_of a b)
    taken_ways a b =
        changed_image (map count) w.ways v.ways from to rest_of rest_of a b (h.ways a b)
        (λ _ _. rest-map count (v.ways a b))

    taken_stamps : (a b : ℕ) → AllWithin (length v.takes) (changed v.ways from to rest_of a b)
    taken_stamps =
        changed_within (length v.takes) v.ways from to rest_of h.stamps
        (AllWithin-rest (length v.takes))

    abbrev view_taken : View
    view_taken = record v { ways = changed v.ways from to rest_of }

    -- where these stamps stood in the list
    abbrev watch_taken : Bool → List ℕ → Watch
    watch_taken c ks = record {
      known = put w.known to (local_taken (heard c) (w.known to) (map count ks));
      ways = changed w.ways from to rest_of;
      sent = w.sent;
      most = w.most;
    }

    take_none : (b c : Bool) → Shows p q (count_take b from to [] view_taken) (watch_taken c [])
    take_none b c = record {
      known = λ r. put_kept (λ x. x) w.known to (w.known to) refl r ∙ h.known r;
      ways = taken_ways;
      sent = h.sent;
      most = h.most;
      own = h.own;
      within = h.within;
      stamps = taken_stamps;
    }

    -- a take of another
    take_other : (k : ℕ) (ks : List ℕ) → to ≢ q → k ≤ length v.takes →
        Shows p q (count_take false from to (k ∷ ks) view_taken) (watch_taken false (k ∷ ks))
    take_other k ks apart e = record {
      known = λ r.
          put_image count w.known v.known to _ (max (v.known to) k) r (h.known r)
          (plus_none _ ∙ ap (λ n. max n (count k)) (h.known to)
          ∙ taken_from-max p v.takes (v.known to) k);
      ways = taken_ways;
      sent = h.sent;
      most = h.most;
      own = put_other v.known to _ q (λ i. apart (sym i)) ∙ h.own;
      within = λ r.
          put_within v.known to (max (v.known to) k) (length v.takes) r (h.within r)
          (let i = h.within to in omega arith);
      stamps = taken_stamps;
    }

    -- a take of q: what it knows is all its takes, so no stamp tells it more
    take_own : (k : ℕ) (ks : List ℕ) → to ≡ q → k ≤ length v.takes →
        Shows p q (count_take true from to (k ∷ ks) view_taken) (watch_taken (p == from) (k ∷ ks))
    take_own k ks here e = record {
      known = λ r.
          put_image (taken_from p takes') w.known v.known to _ (n + 1) r
          (h.known r ∙ sym (taken_from-old p v.takes from (v.known r) (h.within r)))
          (ap (λ m. max m (count k) + one_if (p == from))
          (h.known to ∙ ap count (ap v.known here ∙ h.own))
          ∙ ap (λ m. m + one_if (p == from))
          (taken_from-max p v.takes n k ∙ ap count (greater n k e))
          ∙ sym (taken_from-new p v.takes from));
      ways = λ a b.
          taken_ways a b
          ∙ taken_from-olds p v.takes from (changed v.ways from to rest_of a b)
          (taken_stamps a b);
      sent = h.sent;
      most = h.most;
      own =
          ap (put v.known to (n + 1)) (sym here) ∙ put_same v.known to (n + 1) ∙ sym longer;
      within = λ r.
          put_within v.known to (n + 1) (length takes') r
          (let i = h.within r in omega (arith, longer)) (omega (arith, longer));
      stamps = λ a b.
          AllWithin-more n (length takes') (changed v.ways from to rest_of a b)
          (omega (arith, longer)) (taken_stamps a b);
    }
      where
        n : ℕ
        n = length v.takes

        takes' : List ℕ
        takes' = v.takes ++ from ∷ []

        longer : length takes' ≡ n + 1
        longer = length-append v.takes (from ∷ [])

        greater : (m n : ℕ) → n ≤ m → max m n ≡ m
        greater m n i = omega arith

    take_by : (ks : List ℕ) → AllWithin (length v.takes) ks →
        Shows p q (count_take (to == q) from to ks view_taken)
        (watch_taken ((p == from) && (q == to)) ks)
    take_by [] e = take_none (to == q) ((p == from) && (q == to))
    take_by (k ∷ ks) e = at (eqb_tells to q)
      where
        both : to ≡ q → EqualOrNot p from → ((p == from) && (q == to)) ≡ (p == from)
        both i (inl j) = rw (j.0, eq-eqb q to (sym i)) refl
        both i (inr j) = rw j.0 refl

        at : EqualOrNot to q →
            Shows p q (count_take (to == q) from to (k ∷ ks) view_taken)
            (watch_taken ((p == from) && (q == to)) (k ∷ ks))
        at (inl i) = rw (i.0, both i.1 (eqb_tells p from)) (take_own k ks i.1 e.0)
        at (inr i) =
            rw (i.0, not_pair p q from to (λ _ j. i.1 (sym j))) (take_other k ks i.1 e.0)

    takes : Shows p q (viewed q (Takes from to) v) (watched p q (Takes from to) w)
    takes = rw (h.ways from to) (take_by (v.ways from to) (h.stamps from to))

  step : (x : Passage) → Shows p q (viewed q x v) (watched p q x w)
  step (Sends from to) = send from to
  step (Takes from to) = takes from to

shown : (p q : ℕ) (xs : List Passage) (v : View) (w : Watch) → Shows p q v w →
    Shows p q (viewed_all q xs v) (watched_all p q xs w)
shown p q [] v w h = h
shown p q (x ∷ xs) v w h = shown p q xs (viewed q x v) (watched p q x w) (step p q v w h x)

pub shown_most : (p q : ℕ) (xs : List Passage) →
    (viewed_all q xs fresh_view).most p ≡ (watched_all p q xs fresh_watch).most
shown_most p q xs =
    sym (shown p q xs fresh_view fresh_watch (record {
      known = λ r. refl;
      ways = λ a b. refl;
      sent = refl;
      most = refl;
      own = refl;
      within = λ r. omega arith;
      stamps = λ a b. tt;
    })).most
