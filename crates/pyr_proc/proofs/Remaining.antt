-- What is left at an end of a wire, while a frame is run.
use Rattle.std.proofs.Common.{◌≡◌, ℕ, zero, suc, ◌<◌, List, [], ◌∷◌, ◌++◌, length, Some, slice_get, ◌⊎◌, inl, inr, refl, sym, ◌∙◌, ap, arith, append_assoc, length-append}
use Rattle.std.proofs.lemmas.List.{append-nil}
use Rattle.pyr_num.specs.declared.parcel.Parcel.{Parcel}
use Rattle.pyr_bundle.specs.Parts.{Parts}
use Rattle.pyr_machine.specs.Machine.{capacity_of}
use Rattle.pyr_wire.specs.End.{End, end_at, passed_on}
use Rattle.pyr_proc.specs.Feed.{feed_of, frame_traffic, wire_end}
use Rattle.pyr_proc.specs.Running.{next_at, Remains}

at_front : (xs ys : List Parcel) (y : Parcel) → slice_get (xs ++ y ∷ ys) (length xs) ≡ Some y
at_front [] ys y = refl
at_front (x ∷ xs) ys y = at_front xs ys y

-- the first of what is left is next
pub next_left : (b : Parts) (frames frame p q : ℕ) (x : Parcel) (xs : List Parcel) (e : End) → Remains b frames frame p q (x ∷ xs) e → next_at e ≡ Some x
next_left b frames frame p q x xs e r =
    ap next_at r.is
    ∙ ap (λ l. slice_get l (length r.before)) r.whole
    ∙ at_front r.before (xs ++ r.later) x

-- so there is more
pub more_left : (b : Parts) (frames frame p q : ℕ) (x : Parcel) (xs : List Parcel) (e : End) → Remains b frames frame p q (x ∷ xs) e → e.count < length e.whole
more_left b frames frame p q x xs e r =
    let count : e.count ≡ length r.before = ap (λ (f : End). f.count) r.is in
    let whole : length e.whole ≡ length (r.before ++ (x ∷ (xs ++ r.later))) = ap (λ (f : End). length f.whole) r.is ∙ ap length r.whole in
    let n = length-append r.before (x ∷ (xs ++ r.later)) in
    omega arith

-- when it has passed, the others are left
pub passed_left : (b : Parts) (frames frame p q : ℕ) (x : Parcel) (xs : List Parcel) (e : End) → Remains b frames frame p q (x ∷ xs) e → Remains b frames frame p q xs (passed_on e)
passed_left b frames frame p q x xs e r = record {
  before = r.before ++ x ∷ [];
  later = r.later;
  whole = r.whole ∙ sym (append_assoc r.before (x ∷ []) (xs ++ r.later));
  through = r.through;
  is = ap passed_on r.is ∙ ap (λ n. end_at (feed_of b frames p q) n (capacity_of b p q)) (sym (length-append r.before (x ∷ [])));
}

-- when nothing of the frame is left, the end has passed on exactly its traffic and that of the frames before
pub all_passed : (b : Parts) (frames frame p q : ℕ) (e : End) → Remains b frames frame p q [] e → e ≡ wire_end b frames (suc frame) p q
all_passed b frames frame p q e r =
    r.is ∙ ap (λ n. end_at (feed_of b frames p q) n (capacity_of b p q)) count
  where
    count : length r.before ≡ length (feed_of b (suc frame) p q)
    count =
        let a = ap length (sym r.whole ∙ r.through) in
        let m = length-append r.before r.later in
        let n = length-append (feed_of b (suc frame) p q) r.later in
        omega arith

-- a number below the next one is that one or below it
same_or_less : (m n : ℕ) → m < suc n → (m ≡ n) ⊎ (m < n)
same_or_less zero zero l = inl refl
same_or_less zero (suc n) l = inr (omega arith)
same_or_less (suc m) zero l = absurd (omega arith)
same_or_less (suc m) (suc n) l = more (same_or_less m n (omega arith))
  where
    more : (m ≡ n) ⊎ (m < n) → (suc m ≡ suc n) ⊎ (suc m < suc n)
    more (inl e) = inl (ap suc e)
    more (inr k) = inr (omega arith)

-- what comes in later frames
record Later (b : Parts) (frames frame p q : ℕ) : Type 0 where
  rest : List Parcel
  is : feed_of b frames p q ≡ feed_of b (suc frame) p q ++ rest

later : (b : Parts) (frames frame p q : ℕ) → frame < frames → Later b frames frame p q
later b zero frame p q l = absurd (omega arith)
later b (suc n) frame p q l = at (same_or_less frame n l) (later b n frame p q)
  where
    at : (frame ≡ n) ⊎ (frame < n) → (frame < n → Later b n frame p q) → Later b (suc n) frame p q
    at (inl e) ih = record { rest = []; is = ap (λ m. feed_of b (suc m) p q) (sym e) ∙ sym (append-nil (feed_of b (suc frame) p q)) }
    at (inr k) ih =
        let h = ih k in
        record { rest = h.rest ++ frame_traffic b n p q; is = ap (λ xs. xs ++ frame_traffic b n p q) h.is ∙ append_assoc (feed_of b (suc frame) p q) h.rest (frame_traffic b n p q) }

-- at the beginning of a frame all its traffic is left
pub all_left : (b : Parts) (frames frame p q : ℕ) (e : End) → frame < frames → e ≡ wire_end b frames frame p q → Remains b frames frame p q (frame_traffic b frame p q) e
all_left b frames frame p q e l is =
    let h = later b frames frame p q l in
    record {
      before = feed_of b frame p q;
      later = h.rest;
      whole = h.is ∙ append_assoc (feed_of b frame p q) (frame_traffic b frame p q) h.rest;
      through = h.is;
      is = is;
    }
