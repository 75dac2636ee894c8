-- Names that differ, by their numbers.
use Rattle.std.proofs.Common.{◌≡◌, ℕ, suc, ◌<◌, Bool, true, false, List, [], ◌∷◌, length, map, take, get_or, inl, inr, None, refl, sym, ap, ◌∙◌, arith}
use Rattle.std.specs.Prelude.{◌≢◌, AllPairs, All, Contains, bytes_eq}
use Rattle.std.proofs.lemmas.Bool.{cases_order, cases_Bool}
use Rattle.std.proofs.lemmas.List.{get_or_default, get_or-map, length-map, get_or-take, length-take-le}
use Rattle.std.proofs.lemmas.List.Elements.{All-head, All-tail}
use Rattle.std.proofs.lemmas.List.Folds.{list_any_none, list_any_at}
use Rattle.std.proofs.lemmas.List.Sums.{position_or_len_is}
use Rattle.std.proofs.lemmas.Slice.Eq.{bytes_eq-Decides}
use Rattle.pyr_num.specs.declared.ids.DatumId.{DatumId}
use Rattle.pyr_num.specs.declared.name.Name.{Name}
use Rattle.pyr_body.specs.Body.{AreDistinct}
use Rattle.pyr_graph.specs.System.{datum_numbers}
use Rattle.pyr_graphtext.specs.Statements.{is_among, place_of}
use Rattle.pyr_graphtext.specs.Earlier.{datum_id, datum_ids}
use Rattle.pyr_graphtext.specs.Faults.{read_names_fault, written_names_fault}
use Rattle.pyr_graphtext.proofs.Pairs.{AllPairs-head, AllPairs-tail, not_later}

pub same_bytes : (x y : Name) → x ≡ y → bytes_eq x y ≡ true
same_bytes x y e = (bytes_eq-Decides x y).1 e

pub other_bytes : (x y : Name) → x ≢ y → bytes_eq x y ≡ false
other_bytes x y differ = elim (cases_Bool (bytes_eq x y)) [
  | inl same ↦ absurd (differ ((bytes_eq-Decides x y).0 same))
  | inr other ↦ other
]

module _ (names : List Name) (differ : AreDistinct names) where
  -- the name with a number
  abbrev pub nth : ℕ → Name
  nth i = get_or names i []

  pub same_number : (i j : ℕ) → i < length names → j < length names → nth i ≡ nth j → i ≡ j
  same_number i j inside there same = elim (cases_order i j) [
    | inl e ↦ e
    | inr (inl less) ↦ absurd (differ i j [] less there same)
    | inr (inr more) ↦ absurd (differ j i [] more inside (sym same))
  ]

  pub among : (i : ℕ) → i < length names → is_among names (nth i) ≡ true
  among i inside = list_any_at (bytes_eq (nth i)) names i [] inside (same_bytes (nth i) (nth i) refl)

  pub place_is : (i : ℕ) → i < length names → place_of names (nth i) ≡ i
  place_is i inside =
      position_or_len_is (bytes_eq (nth i)) names i [] (omega (arith, inside))
      (λ k less. other_bytes (nth i) (nth k) (λ e. differ k i [] less inside (sym e)))
      (λ _. same_bytes (nth i) (nth i) refl)

  -- it isn't among the names before it
  pub not_in_front : (i : ℕ) → i < length names → is_among (take i names) (nth i) ≡ false
  not_in_front i inside = list_any_none (bytes_eq (nth i)) (take i names) before where
    before : All (λ x. bytes_eq (nth i) x ≡ false) (take i names)
    before k d less =
        let front : length (take i names) ≡ i = length-take-le i names (omega (arith, inside)) in
        let short : k < i = omega (arith, front, less) in
        let at : get_or (take i names) k d ≡ get_or names k d = get_or-take i names k d short in
        let fine : get_or names k d ≡ nth k = get_or_default names k d [] (omega (arith, short, inside)) in
        other_bytes (nth i) (get_or (take i names) k d) (λ e. differ k i [] short inside (sym (e ∙ at ∙ fine)))

  -- the names of data
  abbrev pub named : List DatumId → List Name
  named ids = map (λ d. nth d.0) ids

  -- each of the numbers has a name
  abbrev pub Exist : List DatumId → Type 0
  Exist ids = All (λ d. d.0 < length names) ids

  pub ids_again : (ids : List DatumId) → Exist ids → datum_ids names (named ids) ≡ ids
  ids_again [] exist = refl
  ids_again (d ∷ ids) exist =
      let here : place_of names (nth d.0) ≡ d.0 = place_is d.0 (All-head (λ d. d.0 < length names) d ids exist) in
      let id : datum_id names (nth d.0) ≡ d = ap (λ (n : ℕ). let x : DatumId = record { 0 = n } in x) here in
      ap (λ (x : DatumId). x ∷ datum_ids names (named ids)) id
      ∙ ap (λ (xs : List DatumId). d ∷ xs) (ids_again ids (All-tail (λ d. d.0 < length names) d ids exist))

  -- a name among those of data has the number of one of them
  pub number_among : (ids : List DatumId) (x : ℕ) → Exist ids → x < length names → is_among (named ids) (nth x) ≡ true → Contains (datum_numbers ids) x
  number_among [] x exist inside e = absurd (let s : false ≡ true = e in cc)
  number_among (d ∷ ids) x exist inside e = by_test (bytes_eq (nth x) (nth d.0)) refl e (number_among ids x (All-tail (λ d. d.0 < length names) d ids exist) inside) where
    by_test : (b : Bool) → bytes_eq (nth x) (nth d.0) ≡ b → is_among (named (d ∷ ids)) (nth x) ≡ true → (is_among (named ids) (nth x) ≡ true → Contains (datum_numbers ids) x) → Contains (datum_numbers (d ∷ ids)) x
    by_test true t f rest =
        let same : x ≡ d.0 = same_number x d.0 inside (All-head (λ d. d.0 < length names) d ids exist) ((bytes_eq-Decides (nth x) (nth d.0)).0 t) in
        (0, omega arith, sym same)
    by_test false t f rest =
        let more = rest (rw t at f) in
        (suc more.0, omega (arith, more.1), more.2)

  pub not_among : (ids : List DatumId) (x : ℕ) → Exist ids → x < length names → (Contains (datum_numbers ids) x → ⊥) → is_among (named ids) (nth x) ≡ false
  not_among ids x exist inside none = elim (cases_Bool (is_among (named ids) (nth x))) [
    | inl there ↦ absurd (none (number_among ids x exist inside there))
    | inr not_there ↦ not_there
  ]

  -- data that differ have names that differ
  pub named_distinct : (ids : List DatumId) → Exist ids → AllPairs (λ d e. d ≢ e) (datum_numbers ids) → AreDistinct (named ids)
  named_distinct ids exist once i j d less inside same =
      let long : j < length ids = omega (arith, inside, length-map ids (λ (d : DatumId). nth d.0)) in
      let short : i < length ids = omega (arith, less, long) in
      let none : DatumId = record { 0 = 0 } in
      let at_i : get_or (named ids) i d ≡ nth (get_or ids i none).0 = get_or-map (λ (d : DatumId). nth d.0) ids i none d short in
      let at_j : get_or (named ids) j d ≡ nth (get_or ids j none).0 = get_or-map (λ (d : DatumId). nth d.0) ids j none d long in
      let numbers : (get_or ids i none).0 ≡ (get_or ids j none).0 = same_number (get_or ids i none).0 (get_or ids j none).0 (exist i none short) (exist j none long) (sym at_i ∙ same ∙ at_j) in
      let n_i : get_or (datum_numbers ids) i 0 ≡ (get_or ids i none).0 = get_or-map (λ (d : DatumId). d.0) ids i none 0 short in
      let n_j : get_or (datum_numbers ids) j 0 ≡ (get_or ids j none).0 = get_or-map (λ (d : DatumId). d.0) ids j none 0 long in
      once i j 0 less (omega (arith, long, length-map ids (λ (d : DatumId). d.0))) (n_i ∙ numbers ∙ sym n_j)

  -- the names of a line `reads` pass
  pub read_names_pass : (ids : List DatumId) → Exist ids → AllPairs (λ d e. d ≢ e) (datum_numbers ids) → read_names_fault names (named ids) ≡ None
  read_names_pass [] exist once = refl
  read_names_pass (d ∷ ids) exist once =
      let inside : d.0 < length names = All-head (λ d. d.0 < length names) d ids exist in
      let others = All-tail (λ d. d.0 < length names) d ids exist in
      let new : is_among (named ids) (nth d.0) ≡ false = not_among ids d.0 others inside (not_later d.0 (datum_numbers ids) (AllPairs-head (λ d e. d ≢ e) d.0 (datum_numbers ids) once)) in
      rw (among d.0 inside, new) (read_names_pass ids others (AllPairs-tail (λ d e. d ≢ e) d.0 (datum_numbers ids) once))

  -- and so do those of a line `writes`, where no other task writes these data
  pub written_names_pass : (others : List Name) (ids : List DatumId) → Exist ids → AllPairs (λ d e. d ≢ e) (datum_numbers ids)
      → All (λ d. is_among others (nth d.0) ≡ false) ids → written_names_fault names others (named ids) ≡ None
  written_names_pass others [] exist once first = refl
  written_names_pass others (d ∷ ids) exist once first =
      let inside : d.0 < length names = All-head (λ d. d.0 < length names) d ids exist in
      let rest = All-tail (λ d. d.0 < length names) d ids exist in
      let new : is_among (named ids) (nth d.0) ≡ false = not_among ids d.0 rest inside (not_later d.0 (datum_numbers ids) (AllPairs-head (λ d e. d ≢ e) d.0 (datum_numbers ids) once)) in
      let free : is_among others (nth d.0) ≡ false = All-head (λ d. is_among others (nth d.0) ≡ false) d ids first in
      rw (among d.0 inside, new, free)
      (written_names_pass others ids rest (AllPairs-tail (λ d e. d ≢ e) d.0 (datum_numbers ids) once) (All-tail (λ d. is_among others (nth d.0) ≡ false) d ids first))
