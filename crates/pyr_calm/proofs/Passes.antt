-- A pass from its start to its end.
use Rattle.std.proofs.Common.{◌≡◌, ℕ, zero, suc, ◌+◌, ◌-◌, ◌<◌, ◌≤◌, ◌==◌, max, cond, List, [], ◌∷◌, ◌++◌, length, drop, take, get_or, slice_index, replicate, count_by, ◌⊎◌, inl, inr, refl, sym, ◌∙◌, ap, subst, arith}
use Rattle.std.proofs.lemmas.Bool.{cases_lt}
use Rattle.std.proofs.lemmas.List.{take-take, length-replicate, get_or-replicate, get_or_past, get_or_append_left, get_or_push, length_push, drop_more, drop_all}
use Rattle.std.proofs.lemmas.List.Sums.{sum_by-take-drop}
use Rattle.std.proofs.lemmas.Slice.{between_is}
use Rattle.std.specs.List.{between}
use mathlib.Core.Path.{fun_ext}
use borrow.Author.Count.{below_more}
use Rattle.pyr_calm.specs.declared.passage.Passage.{Passage}
use Rattle.pyr_calm.specs.Course.{IsAmong, AreAmong}
use Rattle.pyr_calm.specs.Viewers.{View, taken_from, viewed, viewed_all, fresh_view}
use Rattle.pyr_calm.specs.Seats.{Seat, no_seat, seat_at, way_at, view_of, fresh_seat, sent_once, IsWithin, IsCounted, IsSeated, AreTold}
use Rattle.pyr_calm.proofs.Seats.{view_path}

-- a passage of these
among_at : (n : ℕ) (xs : List Passage) (i : ℕ) (d : Passage) → AreAmong n xs → i < length xs →
    IsAmong n (get_or xs i d)
among_at n [] i d h l = absurd (omega (arith, l))
among_at n (x ∷ xs) zero d h l = h.0
among_at n (x ∷ xs) (suc i) d h l = among_at n xs i d h.1 (omega arith)

-- what is left after one passage more
pub one_viewed : (q : ℕ) (xs : List Passage) (i : ℕ) (x : Passage) (v w : View) (z : View) →
    i < length xs → get_or xs i x ≡ x → w ≡ viewed q x v → viewed_all q (drop i xs) v ≡ z →
    viewed_all q (drop (i + 1) xs) w ≡ z
one_viewed q xs i x v w z l e f h =
    ap (viewed_all q (drop (i + 1) xs)) (f ∙ ap (λ y. viewed q y v) (sym e))
    ∙ sym (ap (λ ys. viewed_all q ys v) (drop_more xs i x l)) ∙ h

-- The start.

way_fresh : (n q : ℕ) → way_at (replicate n []) q ≡ []
way_fresh n q = at (cases_lt q n)
  where
    at : (q < n) ⊎ (n ≤ q) → way_at (replicate n []) q ≡ []
    at (inl l) = get_or-replicate n q [] [] l
    at (inr m) =
        get_or_past (replicate n []) q []
        (let e = length-replicate n (let x : List ℕ = [] in x) in omega (arith, m, e))

module _ (n : ℕ) where
  abbrev fresh_seats : List Seat
  fresh_seats = replicate n (fresh_seat n)

  seat_fresh : (F : Seat → Type 0) → F (fresh_seat n) → F no_seat → (p : ℕ) → F (seat_at fresh_seats p)
  seat_fresh F one none p = at (cases_lt p n)
    where
      at : (p < n) ⊎ (n ≤ p) → F (seat_at fresh_seats p)
      at (inl l) = subst F (sym (get_or-replicate n p (fresh_seat n) no_seat l)) one
      at (inr m) =
          subst F
          (sym (get_or_past fresh_seats p no_seat
          (let e = length-replicate n (fresh_seat n) in omega (arith, m, e))))
          none

  pub fresh_is : view_of fresh_seats [] ≡ fresh_view
  fresh_is =
      view_path _ _ refl
      (fun_ext (seat_fresh (λ s. s.known ≡ 0) refl refl))
      (fun_ext (λ a. fun_ext (λ b. seat_fresh (λ s. way_at s.ways b ≡ []) (way_fresh n b) refl a)))
      (fun_ext (seat_fresh (λ s. s.sent ≡ 0) refl refl))
      (fun_ext (seat_fresh (λ s. s.most ≡ 0) refl refl))

  fresh_within : IsWithin 0 fresh_view
  fresh_within = record { known = λ r. omega arith; stamps = λ a b. tt }

  pub fresh_seated : IsSeated n fresh_seats []
  fresh_seated = record {
    count = length-replicate n (fresh_seat n);
    ways = λ p l.
        ap (λ (s : Seat). length s.ways) (get_or-replicate n p (fresh_seat n) no_seat l)
        ∙ length-replicate n (let x : List ℕ = [] in x);
    within = subst (IsWithin 0) (sym fresh_is) fresh_within;
    counted = λ p.
        seat_fresh (IsCounted p []) (record { some = omega arith; received = refl })
        (record { some = omega arith; received = refl }) p;
  }

  pub fresh_few : (p : ℕ) → (seat_at fresh_seats p).sent ≤ 0
  fresh_few = seat_fresh (λ s. s.sent ≤ 0) (omega arith) (omega arith)

-- a pass after i of these passages
pub record IsPassed (n q : ℕ) (xs : List Passage) (i : ℕ) (seats : List Seat) (takes : List ℕ)
    : Type 0 where
  pub seated : IsSeated n seats takes
  -- what is left leads from here to where all leads to from the start
  pub leads : viewed_all q (drop i xs) (view_of seats takes) ≡ viewed_all q xs fresh_view
  pub few : (p : ℕ) → (seat_at seats p).sent ≤ i

pub pass_first : (n q : ℕ) (xs : List Passage) (seats : List Seat) (takes : List ℕ) →
    seats ≡ replicate n (fresh_seat n) → takes ≡ [] → IsPassed n q xs 0 seats takes
pass_first n q xs seats takes e f =
    subst (λ ys. IsPassed n q xs 0 ys takes) (sym e)
    (subst (λ ts. IsPassed n q xs 0 (replicate n (fresh_seat n)) ts) (sym f) (record {
      seated = fresh_seated n;
      leads = ap (viewed_all q xs) (fresh_is n);
      few = fresh_few n;
    }))

pub pass_more : (n q : ℕ) (xs : List Passage) (i : ℕ) (x : Passage) (seats : List Seat)
    (takes : List ℕ) (seats' : List Seat) (takes' : List ℕ) → IsPassed n q xs i seats takes →
    i < length xs → get_or xs i x ≡ x → view_of seats' takes' ≡ viewed q x (view_of seats takes) →
    IsSeated (length seats) seats' takes' →
    ((p : ℕ) → (seat_at seats' p).sent ≤ (seat_at seats p).sent + 1) →
    IsPassed n q xs (i + 1) seats' takes'
pass_more n q xs i x seats takes seats' takes' h l e view seated few = record {
  seated = subst (λ m. IsSeated m seats' takes') h.seated.count seated;
  leads = one_viewed q xs i x (view_of seats takes) (view_of seats' takes') _ l e view h.leads;
  few = λ p. let a = few p in let b = h.few p in omega (arith, a, b);
}

-- both ends of the next passage are among the processors
pub ends_in : (n : ℕ) (xs : List Passage) (i : ℕ) (d x : Passage) (seats seats' : List Seat)
    (takes : List ℕ) → AreAmong n xs → i < length xs → get_or xs i d ≡ x → seats' ≡ seats →
    IsSeated n seats takes → IsAmong (length seats') x
ends_in n xs i d x seats seats' takes all l e f h =
    subst (λ m. IsAmong m x) (sym (ap length f ∙ h.count))
    (subst (IsAmong n) e (among_at n xs i d all l))

pub pass_last : (n q : ℕ) (xs : List Passage) (i : ℕ) (seats : List Seat) (takes : List ℕ) →
    IsPassed n q xs i seats takes → length xs ≤ i → (p : ℕ) →
    (seat_at seats p).most ≡ (viewed_all q xs fresh_view).most p
pass_last n q xs i seats takes h l p =
    ap (λ (ys : List Passage). (viewed_all q ys (view_of seats takes)).most p) (sym (drop_all i xs l))
    ∙ ap (λ (v : View). v.most p) h.leads

-- The greatest lengths.

-- one more is there
pub more_told : (n : ℕ) (ms : List ℕ) (f : ℕ → ℕ) (m : ℕ) → length ms ≡ n →
    ((p : ℕ) → p < n → slice_index ms p ≡ f p) → m ≡ f n →
    (length (ms ++ m ∷ []) ≡ n + 1)
    × ((p : ℕ) → p < n + 1 → slice_index (ms ++ m ∷ []) p ≡ f p)
more_told n ms f m e h is = (
  length_push ms m ∙ ap (λ k. k + 1) e,
  below_more (λ p. slice_index (ms ++ m ∷ []) p ≡ f p) n
      (λ p l. get_or_append_left ms (m ∷ []) 0 p (omega (arith, l, e)) ∙ h p l)
      (get_or_push ms m 0 n e ∙ is),
)

pub none_told : (n : ℕ) (xs : List Passage) (rows : List (List ℕ)) → rows ≡ [] → AreTold n xs 0 rows
none_told n xs rows e = record {
  count = ap length e;
  full = λ q l. absurd (omega (arith, l));
  most = λ q p l. absurd (omega (arith, l));
}

-- one row more
pub row_told : (n : ℕ) (xs : List Passage) (q : ℕ) (rows : List (List ℕ)) (row : List ℕ) →
    AreTold n xs q rows → length row ≡ n →
    ((p : ℕ) → p < n → slice_index row p ≡ (viewed_all q xs fresh_view).most p) →
    AreTold n xs (q + 1) (rows ++ row ∷ [])
row_told n xs q rows row h full most = record {
  count = length_push rows row ∙ ap (λ k. k + 1) h.count;
  full =
      below_more (λ c. length (way_at (rows ++ row ∷ []) c) ≡ n) q
      (λ c l. ap length (old c l) ∙ h.full c l) (ap length new ∙ full);
  most = λ c p l m.
      below_more (λ d. slice_index (way_at (rows ++ row ∷ []) d) p ≡ (viewed_all d xs fresh_view).most p) q
      (λ d k. ap (λ ws. slice_index ws p) (old d k) ∙ h.most d p k m)
      (ap (λ ws. slice_index ws p) new ∙ most p m) c l;
}
  where
    old : (c : ℕ) → c < q → way_at (rows ++ row ∷ []) c ≡ way_at rows c
    old c l =
        get_or_append_left rows (row ∷ []) [] c (let e = h.count in omega (arith, l, e))

    new : way_at (rows ++ row ∷ []) q ≡ row
    new = get_or_push rows row [] q h.count

-- How many takes are counted.

pub count_more : (p : ℕ) (takes : List ℕ) (i j : ℕ) → i ≤ j →
    taken_from p takes i + count_by (λ s. p == s) (between i j takes) ≡ taken_from p takes j
count_more p takes i j l =
    ap (λ xs. taken_from p takes i + count_by (λ s. p == s) xs) (between_is takes i j)
    ∙ ap (λ xs. count_by (λ s. p == s) xs + count_by (λ s. p == s) (drop i (take j takes)))
    (sym (take-take i j takes l))
    ∙ sum_by-take-drop (λ s. cond (p == s) 1 0) (take j takes) i

pub counted_seat : (p : ℕ) (takes : List ℕ) (s : Seat) (n m : ℕ) → IsCounted p takes s →
    n ≡ count_by (λ s. p == s) (between s.counted s.known takes) →
    m ≡ max s.most (s.sent + 1 - (s.received + n)) →
    let new : Seat = record {
      known = s.known;
      counted = s.known;
      received = s.received + n;
      sent = s.sent + 1;
      most = m;
      ways = s.ways;
    } in
    new ≡ sent_once p takes s
counted_seat p takes s n m h e f = λ i. record {
  known = s.known;
  counted = s.known;
  received = received i;
  sent = s.sent + 1;
  most = (f ∙ ap (λ k. max s.most (s.sent + 1 - k)) received) i;
  ways = s.ways;
}
  where
    received : s.received + n ≡ taken_from p takes s.known
    received =
        ap (λ k. k + n) h.received ∙ ap (λ k. taken_from p takes s.counted + k) e
        ∙ count_more p takes s.counted s.known h.some
