-- Names among names, and the places at which they stand.
use Rattle.std.proofs.Common.{◌≡◌, ℕ, zero, suc, ◌<◌, ◌⊎◌, inl, inr, Bool, true, false, List, [], ◌∷◌, ◌++◌, length, get_or, arith, refl, ap, sym, ◌∙◌, None, eqb-true}
use Rattle.std.specs.Prelude.{nat_eq, bytes_eq, ◌||◌, All, ⊤}
use Rattle.std.specs.List.{list_any, position_or_len}
use Rattle.std.proofs.lemmas.Bool.{cases_Bool, false_from_ne_true, or_parts, or_from, true≢false}
use Rattle.std.proofs.lemmas.List.Elements.{All-nil, All-cons}
use Rattle.std.proofs.lemmas.List.Folds.{list_any-append, list_any_at}
use Rattle.std.proofs.lemmas.List.Sums.{passes_at_first}
use Rattle.std.proofs.lemmas.Slice.Eq.{bytes_eq-Decides}
use Rattle.pyr_num.specs.declared.name.Name.{Name}
use Rattle.pyr_num.specs.declared.ids.DatumId.{DatumId}
use Rattle.pyr_graph.specs.System.{datum_numbers}
use Rattle.pyr_graph.specs.Faults.{first_repeated}
use Rattle.pyr_body.specs.Body.{AreDistinct}
use Rattle.pyr_graphtext.specs.Statements.{is_among, place_of}
use Rattle.pyr_graphtext.specs.Earlier.{datum_id, datum_ids}

-- the names are all among these
abbrev pub AreAmong : List Name → List Name → Type 0
AreAmong names [] = ⊤
AreAmong names (x ∷ xs) = (is_among names x ≡ true) × AreAmong names xs

-- no name stands again behind its place
abbrev pub AreNew : List Name → Type 0
AreNew [] = ⊤
AreNew (x ∷ xs) = (is_among xs x ≡ false) × AreNew xs

same_name : (x y : Name) → bytes_eq x y ≡ true → x ≡ y
same_name x y is = (bytes_eq-Decides x y).0 is

same_test : (x y : Name) → x ≡ y → bytes_eq x y ≡ true
same_test x y is = (bytes_eq-Decides x y).1 is

turned_test : (x y : Name) → bytes_eq y x ≡ false → bytes_eq x y ≡ false
turned_test x y apart = false_from_ne_true (bytes_eq x y) (λ is. true≢false (sym (same_test y x (sym (same_name x y is))) ∙ apart))

pub among_self : (names : List Name) (x : Name) → is_among (x ∷ names) x ≡ true
among_self names x = rw (same_test x x refl)

or_right : (p q : Bool) → q ≡ true → (p || q) ≡ true
or_right true q is = refl
or_right false q is = is

or_left : (p q : Bool) → p ≡ true → (p || q) ≡ true
or_left true q is = refl
or_left false q is = absurd (true≢false (sym is))

pub among_cons : (y : Name) (names : List Name) (x : Name) → is_among names x ≡ true → is_among (y ∷ names) x ≡ true
among_cons y names x is = or_right (bytes_eq x y) (is_among names x) is

-- a name among these and one before them
pub among_cases : (y : Name) (names : List Name) (x : Name) → is_among (y ∷ names) x ≡ true → (x ≡ y) ⊎ (is_among names x ≡ true)
among_cases y names x is = elim (cases_Bool (bytes_eq x y)) [
  | inl here ↦ inl (same_name x y here)
  | inr apart ↦ inr (rw apart at is)
]

-- more names, before or behind
pub among_front : (names others : List Name) (x : Name) → is_among names x ≡ true → is_among (names ++ others) x ≡ true
among_front names others x is =
    list_any-append (bytes_eq x) names others ∙ or_left (is_among names x) (is_among others x) is

pub among_back : (names others : List Name) (x : Name) → is_among others x ≡ true → is_among (names ++ others) x ≡ true
among_back names others x is =
    list_any-append (bytes_eq x) names others ∙ or_right (is_among names x) (is_among others x) is

pub AreAmong-front : (names others xs : List Name) → AreAmong names xs → AreAmong (names ++ others) xs
AreAmong-front names others [] all = tt
AreAmong-front names others (x ∷ xs) all =
    (among_front names others x all.0, AreAmong-front names others xs all.1)

pub AreAmong-push : (names xs : List Name) (x : Name) → AreAmong names xs → is_among names x ≡ true → AreAmong names (xs ++ x ∷ [])
AreAmong-push names [] x all is = (is, tt)
AreAmong-push names (y ∷ xs) x all is = (all.0, AreAmong-push names xs x all.1 is)

pub AreNew-push : (xs : List Name) (x : Name) → AreNew xs → is_among xs x ≡ false → AreNew (xs ++ x ∷ [])
AreNew-push [] x new apart = (refl, tt)
AreNew-push (y ∷ xs) x new apart =
    let (here, rest) = or_parts (bytes_eq x y) (is_among xs x) apart in
    let later : is_among (x ∷ []) y ≡ false = or_from (bytes_eq y x) false (turned_test y x here) refl in
    (list_any-append (bytes_eq y) xs (x ∷ []) ∙ or_from (is_among xs y) (is_among (x ∷ []) y) new.0 later, AreNew-push xs x new.1 rest)

-- so they differ
pub AreDistinct-new : (xs : List Name) → AreNew xs → AreDistinct xs
AreDistinct-new [] new = λ i j d less inside. absurd (let no_place : j < 0 = inside in omega (arith, no_place))
AreDistinct-new (x ∷ xs) new = pairs (AreDistinct-new xs new.1)
  where
    pairs : AreDistinct xs → AreDistinct (x ∷ xs)
    pairs rest i zero d less inside same = absurd (omega arith)
    pairs rest zero (suc j) d less inside same =
        let found = list_any_at (bytes_eq x) xs j d (omega arith) (same_test x (get_or xs j d) same) in
        true≢false (sym found ∙ new.0)
    pairs rest (suc i) (suc j) d less inside same = rest i j d (omega arith) (omega arith) same

-- the place of a name that is among the names
module _ (names : List Name) where
  pub place_below : (x : Name) → is_among names x ≡ true → place_of names x < length names
  place_below x is = below names is
    where
      below : (xs : List Name) → is_among xs x ≡ true → position_or_len (bytes_eq x) xs < length xs
      below [] none = absurd (let both : false ≡ true = none in true≢false (sym both))
      below (y ∷ ys) found = elim (cases_Bool (bytes_eq x y)) [
        | inl here ↦ rw here (omega arith)
        | inr apart ↦ (
            let there : is_among ys x ≡ true = rw apart at found in
            let rest = below ys there in
            rw apart (omega arith))
      ]

  pub place_holds : (x : Name) → is_among names x ≡ true → x ≡ get_or names (place_of names x) []
  place_holds x is = same_name x (get_or names (place_of names x) []) (passes_at_first (bytes_eq x) names [] (place_below x is))

  pub same_place : (x y : Name) → is_among names x ≡ true → is_among names y ≡ true → place_of names x ≡ place_of names y → x ≡ y
  same_place x y is_x is_y same =
      place_holds x is_x ∙ ap (λ (n : ℕ). get_or names n []) same ∙ sym (place_holds y is_y)

  -- stays where names come behind
  pub place_kept : (others : List Name) (x : Name) → is_among names x ≡ true → place_of (names ++ others) x ≡ place_of names x
  place_kept others x is = kept names is
    where
      kept : (xs : List Name) → is_among xs x ≡ true → position_or_len (bytes_eq x) (xs ++ others) ≡ position_or_len (bytes_eq x) xs
      kept [] none = absurd (let both : false ≡ true = none in true≢false (sym both))
      kept (y ∷ ys) found = elim (cases_Bool (bytes_eq x y)) [
        | inl here ↦ rw here
        | inr apart ↦ (
            let there : is_among ys x ≡ true = rw apart at found in
            rw (apart, kept ys there))
      ]

  pub ids_below : (xs : List Name) → AreAmong names xs → All (λ d. d.0 < length names) (datum_ids names xs)
  ids_below [] all = All-nil (λ (d : DatumId). d.0 < length names)
  ids_below (x ∷ xs) all =
      All-cons (λ (d : DatumId). d.0 < length names) (datum_id names x) (datum_ids names xs) (place_below x all.0) (ids_below xs all.1)

  -- another name has another place
  place_apart : (x : Name) → is_among names x ≡ true → (xs : List Name) → AreAmong names xs → is_among xs x ≡ false → list_any (nat_eq (place_of names x)) (datum_numbers (datum_ids names xs)) ≡ false
  place_apart x is [] all new = refl
  place_apart x is (y ∷ xs) all new =
      let (here, rest) = or_parts (bytes_eq x y) (is_among xs x) new in
      let apart : nat_eq (place_of names x) (place_of names y) ≡ false =
      false_from_ne_true (nat_eq (place_of names x) (place_of names y)) (λ same. true≢false (sym (same_test x y (same_place x y is all.0 (eqb-true (place_of names x) (place_of names y) same))) ∙ here)) in
      or_from (nat_eq (place_of names x) (place_of names y)) (list_any (nat_eq (place_of names x)) (datum_numbers (datum_ids names xs))) apart (place_apart x is xs all.1 rest)

  -- names that are new have numbers that are
  pub ids_once : (xs : List Name) → AreAmong names xs → AreNew xs → first_repeated (datum_numbers (datum_ids names xs)) ≡ None
  ids_once [] all new = refl
  ids_once (x ∷ xs) all new = rw (place_apart x all.0 xs all.1 new.0) (ids_once xs all.1 new.1)

  -- a number of some of these names is the place of one
  pub name_of_id : (xs : List Name) (d : ℕ) → AreAmong names xs → list_any (nat_eq d) (datum_numbers (datum_ids names xs)) ≡ true
      → (x : Name) × (is_among names x ≡ true) × (is_among xs x ≡ true) × (d ≡ place_of names x)
  name_of_id [] d all none = absurd (let both : false ≡ true = none in true≢false (sym both))
  name_of_id (x ∷ xs) d all found = elim (cases_Bool (nat_eq d (place_of names x))) [
    | inl here ↦ (x, all.0, among_self xs x, eqb-true d (place_of names x) here)
    | inr apart ↦ (
        let there : list_any (nat_eq d) (datum_numbers (datum_ids names xs)) ≡ true = rw apart at found in
        let (y, is, in_xs, at) = name_of_id xs d all.1 there in
        (y, is, among_cons x xs y in_xs, at))
  ]
