-- Names and their places.
use Rattle.std.proofs.Common.{◌≡◌, ℕ, suc, ◌+◌, Bool, true, false, cond, List, [], ◌∷◌, length, Some, None, refl, sym, ap, ◌∙◌, arith}
use Rattle.std.specs.Prelude.{bytes_eq, unwrap_or, position, nat_lt, not}
use Rattle.std.specs.List.{position_or_len}
use Rattle.std.proofs.lemmas.Bool.{leb-false}
use Rattle.std.proofs.lemmas.List.Sums.{prefix_len-le-length}
use Rattle.std.proofs.lemmas.Slice.Eq.{bytes_eq-Decides}
use Rattle.pyr_num.specs.declared.name.Name.{Name}
use Rattle.pyr_body.specs.Names.{index_from, index_of}
use Rattle.pyr_graphtext.specs.Statements.{is_among, place_of}

-- two names are equal whichever is named first
pub bytes_eq_turned : (x y : Name) → bytes_eq x y ≡ bytes_eq y x
bytes_eq_turned x y = by_tests (bytes_eq x y) (bytes_eq y x) refl refl where
  by_tests : (a b : Bool) → bytes_eq x y ≡ a → bytes_eq y x ≡ b → bytes_eq x y ≡ bytes_eq y x
  by_tests true true e f = e ∙ sym f
  by_tests false false e f = e ∙ sym f
  by_tests true false e f = absurd (let t : bytes_eq y x ≡ true = (bytes_eq-Decides y x).1 (sym ((bytes_eq-Decides x y).0 e)) in cc)
  by_tests false true e f = absurd (let t : bytes_eq x y ≡ true = (bytes_eq-Decides x y).1 (sym ((bytes_eq-Decides y x).0 f)) in cc)

-- the first place of a name, if it stands there
pub index_from_is : (k : ℕ) (name : Name) (xs : List Name) → index_from k name xs ≡ cond (is_among xs name) (Some (k + place_of xs name)) None
index_from_is k name [] = refl
index_from_is k name (x ∷ xs) = by_test (bytes_eq name x) refl (index_from_is (k + 1) name xs) where
  by_test : (b : Bool) → bytes_eq name x ≡ b → index_from (k + 1) name xs ≡ cond (is_among xs name) (Some (k + 1 + place_of xs name)) None
      → index_from k name (x ∷ xs) ≡ cond (is_among (x ∷ xs) name) (Some (k + place_of (x ∷ xs) name)) None
  by_test true e rest =
      let here : bytes_eq x name ≡ true = bytes_eq_turned x name ∙ e in
      let none : k ≡ k + 0 = omega arith in
      rw (e, here) (ap (λ (n : ℕ). Some n) none)
  by_test false e rest =
      let there : bytes_eq x name ≡ false = bytes_eq_turned x name ∙ e in
      let more : k + 1 + place_of xs name ≡ k + (1 + place_of xs name) = omega arith in
      rw (e, there) (rest ∙ ap (λ (n : ℕ). cond (is_among xs name) (Some n) None) more)

pub index_of_is : (name : Name) (xs : List Name) → index_of name xs ≡ cond (is_among xs name) (Some (place_of xs name)) None
index_of_is name xs =
    let none : 0 + place_of xs name ≡ place_of xs name = omega arith in
    index_from_is 0 name xs ∙ ap (λ (n : ℕ). cond (is_among xs name) (Some n) None) none

-- a name that isn't among names has the place behind them
pub place_of_none : (xs : List Name) (name : Name) → is_among xs name ≡ false → place_of xs name ≡ length xs
place_of_none [] name e = refl
place_of_none (x ∷ xs) name e = by_test (bytes_eq name x) refl e (place_of_none xs name) where
  by_test : (b : Bool) → bytes_eq name x ≡ b → is_among (x ∷ xs) name ≡ false → (is_among xs name ≡ false → place_of xs name ≡ length xs) → place_of (x ∷ xs) name ≡ length (x ∷ xs)
  by_test true t f rest = absurd (let g : true ≡ false = rw t at f in cc)
  by_test false t f rest = let g : is_among xs name ≡ false = rw t at f in let one : 1 + place_of xs name ≡ suc (length xs) = omega (arith, rest g) in rw t one

-- the first place, or the length where there is none
pub place_is : (p : Name → Bool) (xs : List Name) → unwrap_or (position p xs) (length xs) ≡ position_or_len p xs
place_is p xs = by_test (nat_lt (position_or_len p xs) (length xs)) refl where
  by_test : (b : Bool) → nat_lt (position_or_len p xs) (length xs) ≡ b → unwrap_or (cond b (Some (position_or_len p xs)) None) (length xs) ≡ position_or_len p xs
  by_test true e = refl
  by_test false e = omega (arith, leb-false (suc (position_or_len p xs)) (length xs) e, prefix_len-le-length (λ x. not (p x)) xs)
