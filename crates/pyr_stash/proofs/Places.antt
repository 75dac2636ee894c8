-- The first parcel of a datum, by its index.
use Rattle.std.proofs.Common.{◌≡◌, ℕ, zero, suc, ◌+◌, ◌<◌, ◌≤◌, ◌==◌, Bool, true, false, not, cond, List, [], ◌∷◌, length, Some, None, slice_get, get_or, ◌||◌, refl, sym, ◌∙◌, ap, one-add, arith}
use Rattle.std.specs.List.{position, position_or_len, remove}
use Rattle.std.proofs.lemmas.Bool.Decides.{nat_tests}
use Rattle.std.proofs.lemmas.Option.{slice_get_read}
use Rattle.pyr_num.specs.declared.ids.DatumId.{DatumId}
use Rattle.pyr_num.specs.declared.parcel.Parcel.{Parcel}
use Rattle.pyr_machine.specs.Machine.{holds, without}
use Rattle.pyr_machine.specs.Parcels.{parcel_tag, words_in}
use Rattle.pyr_stash.specs.Held.{has_tag, parcel_in}

-- what the index of the first parcel of a datum says; where there is none, it is the length
module _ (d : ℕ) where
  first : (xs : List Parcel) → remove xs (position_or_len (has_tag d) xs) ≡ without parcel_tag d xs
  first [] = refl
  first (x ∷ xs) = at (x.tag.0 == d) (first xs)
    where
      at : (b : Bool) → remove xs (position_or_len (has_tag d) xs) ≡ without parcel_tag d xs → remove (x ∷ xs) (cond (not b) (1 + position_or_len (has_tag d) xs) 0) ≡ cond b xs (x ∷ without parcel_tag d xs)
      at true e = refl
      at false e = rw one-add (ap (λ ys. x ∷ ys) e)

  there : (xs : List Parcel) → position_or_len (has_tag d) xs < length xs → true ≡ holds parcel_tag d xs
  there [] h = absurd (omega arith)
  there (x ∷ xs) h = at (x.tag.0 == d) (there xs) h
    where
      at : (b : Bool) → (position_or_len (has_tag d) xs < length xs → true ≡ holds parcel_tag d xs) → cond (not b) (1 + position_or_len (has_tag d) xs) 0 < length (x ∷ xs) → true ≡ (b || holds parcel_tag d xs)
      at true ih l = refl
      at false ih l = ih (omega arith)

  gone : (xs : List Parcel) → length xs ≤ position_or_len (has_tag d) xs → false ≡ holds parcel_tag d xs
  gone [] h = refl
  gone (x ∷ xs) h = at (x.tag.0 == d) (gone xs) h
    where
      at : (b : Bool) → (length xs ≤ position_or_len (has_tag d) xs → false ≡ holds parcel_tag d xs) → length (x ∷ xs) ≤ cond (not b) (1 + position_or_len (has_tag d) xs) 0 → false ≡ (b || holds parcel_tag d xs)
      at true ih l = absurd (omega arith)
      at false ih l = ih (omega arith)

past : {X : Type 0} (xs : List X) (i : ℕ) → length xs ≤ i → remove xs i ≡ xs
past [] zero h = refl
past [] (suc i) h = refl
past (x ∷ xs) zero h = absurd (omega arith)
past (x ∷ xs) (suc i) h = ap (λ ys. x ∷ ys) (past xs i (omega arith))

-- the first parcel of a datum is what the machine picks
first_is : (d : DatumId) (xs : List Parcel) (x : Parcel) → slice_get xs (position_or_len (has_tag d.0) xs) ≡ Some x → x ≡ parcel_in d xs
first_is d [] x e = cc
first_is d (y ∷ ys) x e = at (y.tag.0 == d.0) refl (first_is d ys x) e
  where
    at : (b : Bool) → (y.tag.0 == d.0) ≡ b → (slice_get ys (position_or_len (has_tag d.0) ys) ≡ Some x → x ≡ parcel_in d ys) → slice_get (y ∷ ys) (cond (not b) (1 + position_or_len (has_tag d.0) ys) 0) ≡ Some x
        → x ≡ record { tag = d; words = cond b y.words (words_in d.0 ys) }
    at true same ih h =
        let number : y.tag.0 ≡ d.0 = grind (arith, nat_tests) in
        let is : y ≡ x = cc in
        sym is ∙ (λ i. record { tag = record { 0 = number i }; words = y.words })
    at false other ih h = ih (rw one-add at h)

-- what an index says, and what its want says
some_at : (d : ℕ) (xs : List Parcel) (i : ℕ) → position (has_tag d) xs ≡ Some i → (position_or_len (has_tag d) xs ≡ i) × (i < length xs)
some_at d xs i e = grind (arith, nat_tests)

none_at : (d : ℕ) (xs : List Parcel) → position (has_tag d) xs ≡ None → length xs ≤ position_or_len (has_tag d) xs
none_at d xs e = grind (arith, nat_tests)

pub found : (d : ℕ) (xs : List Parcel) (i : ℕ) → position (has_tag d) xs ≡ Some i → true ≡ holds parcel_tag d xs
found d xs i e = let s = some_at d xs i e in there d xs (omega arith)

pub removed : (d : ℕ) (xs : List Parcel) (i : ℕ) → position (has_tag d) xs ≡ Some i → remove xs i ≡ without parcel_tag d xs
removed d xs i e = ap (remove xs) (sym (some_at d xs i e).0) ∙ first d xs

pub picked : (d : DatumId) (xs : List Parcel) (i : ℕ) (x : Parcel) → position (has_tag d.0) xs ≡ Some i → x ≡ get_or xs i x → x ≡ parcel_in d xs
picked d xs i x e is = let s = some_at d.0 xs i e in first_is d xs x (ap (slice_get xs) s.0 ∙ slice_get_read xs (length xs) i x refl s.1 is)

-- without a parcel of the datum
pub not_found : (d : ℕ) (xs : List Parcel) → position (has_tag d) xs ≡ None → false ≡ holds parcel_tag d xs
not_found d xs e = gone d xs (none_at d xs e)

pub none_removed : (d : ℕ) (xs : List Parcel) → position (has_tag d) xs ≡ None → xs ≡ without parcel_tag d xs
none_removed d xs e = sym (past xs (position_or_len (has_tag d) xs) (none_at d xs e)) ∙ first d xs

-- a parcel less is there
pub length-without : (d : ℕ) (xs : List Parcel) → holds parcel_tag d xs ≡ true → length (without parcel_tag d xs) + 1 ≡ length xs
length-without d [] e = cc
length-without d (x ∷ xs) e = at (x.tag.0 == d) (length-without d xs) e
  where
    at : (b : Bool) → (holds parcel_tag d xs ≡ true → length (without parcel_tag d xs) + 1 ≡ length xs) → (b || holds parcel_tag d xs) ≡ true → length (cond b xs (x ∷ without parcel_tag d xs)) + 1 ≡ length (x ∷ xs)
    at true ih h = omega arith
    at false ih h = (let l = ih h in omega arith)
