-- The entries of a store, and the list of the parcels that are there.
use Rattle.std.proofs.Common.{◌≡◌, ℕ, zero, suc, ◌+◌, ◌<◌, Bool, true, false, cond, List, [], ◌∷◌, length, slice_get, set, Some, None, refl, sym, ◌∙◌, ap, arith}
use Rattle.std.proofs.lemmas.Option.{get_or_from_slice_get, none-some}
use Rattle.std.proofs.lemmas.Bool.{eq-eqb, ne_eqb, le-ltb}
use Rattle.std.proofs.lemmas.Bool.Decides.{nat_tests}
use Rattle.pyr_num.specs.declared.parcel.Parcel.{Parcel}
use Rattle.pyr_bundle.specs.Parts.{datum_id}
use Rattle.pyr_machine.specs.Machine.{holds, stored}
use Rattle.pyr_machine.specs.Parcels.{parcel_tag, words_in}
use Rattle.pyr_proc.specs.declared.entry.Entry.{Entry}
use Rattle.pyr_proc.specs.Entries.{parcels_from, store_of, entry, no_entry, entry_at}

-- the parcel of an entry
abbrev at_number : ℕ → Entry → Parcel
at_number n e = record { tag = datum_id n; words = e.words }

-- no parcel is of a datum below the first
holds-below : (d from : ℕ) (es : List Entry) → d < from → holds parcel_tag d (parcels_from from es) ≡ false
holds-below d from [] h = refl
holds-below d from (e ∷ es) h = at e.held (holds-below d (from + 1) es (omega arith))
  where
    at : (c : Bool) → holds parcel_tag d (parcels_from (from + 1) es) ≡ false →
        holds parcel_tag d (cond c (at_number from e ∷ parcels_from (from + 1) es) (parcels_from (from + 1) es)) ≡ false
    at true ih = rw (ne_eqb from d (λ f. omega arith)) ih
    at false ih = ih

-- whether a datum's parcel is there
pub holds-from : (d from i : ℕ) (es : List Entry) → d ≡ from + i → holds parcel_tag d (parcels_from from es) ≡ (entry_at es i).held
holds-from d from i [] e = refl
holds-from d from zero (x ∷ es) e = at x.held
  where
    at : (c : Bool) → holds parcel_tag d (cond c (at_number from x ∷ parcels_from (from + 1) es) (parcels_from (from + 1) es)) ≡ c
    at true = rw (eq-eqb from d (omega arith)) refl
    at false = holds-below d (from + 1) es (omega arith)
holds-from d from (suc i) (x ∷ es) e = at x.held (holds-from d (from + 1) i es (omega arith))
  where
    at : (c : Bool) → holds parcel_tag d (parcels_from (from + 1) es) ≡ (entry_at es i).held →
        holds parcel_tag d (cond c (at_number from x ∷ parcels_from (from + 1) es) (parcels_from (from + 1) es)) ≡ (entry_at es i).held
    at true ih = rw (ne_eqb from d (λ f. omega arith)) ih
    at false ih = ih

-- and which words it has
pub words-from : (d from i : ℕ) (es : List Entry) → d ≡ from + i → (entry_at es i).held ≡ true → words_in d (parcels_from from es) ≡ (entry_at es i).words
words-from d from i [] e h = absurd (cc)
words-from d from zero (x ∷ es) e h = at x.held h
  where
    at : (c : Bool) → c ≡ true → words_in d (cond c (at_number from x ∷ parcels_from (from + 1) es) (parcels_from (from + 1) es)) ≡ x.words
    at true h = rw (eq-eqb from d (omega arith)) refl
    at false h = absurd (cc)
words-from d from (suc i) (x ∷ es) e h = at x.held (words-from d (from + 1) i es (omega arith) h)
  where
    at : (c : Bool) → words_in d (parcels_from (from + 1) es) ≡ (entry_at es i).words →
        words_in d (cond c (at_number from x ∷ parcels_from (from + 1) es) (parcels_from (from + 1) es)) ≡ (entry_at es i).words
    at true ih = rw (ne_eqb from d (λ f. omega arith)) ih
    at false ih = ih

pub holds-store : (d : ℕ) (es : List Entry) → holds parcel_tag d (store_of es) ≡ (entry_at es d).held
holds-store d es = holds-from d 0 d es (omega arith)

pub words-store : (d : ℕ) (es : List Entry) → (entry_at es d).held ≡ true → words_in d (store_of es) ≡ (entry_at es d).words
words-store d es = words-from d 0 d es (omega arith)

-- a parcel of a smaller datum comes to the front
stored-below : (x : Parcel) (from : ℕ) (es : List Entry) → x.tag.0 < from → stored parcel_tag x (parcels_from from es) ≡ x ∷ parcels_from from es
stored-below x from [] h = refl
stored-below x from (e ∷ es) h = at e.held (stored-below x (from + 1) es (omega arith))
  where
    at : (c : Bool) → stored parcel_tag x (parcels_from (from + 1) es) ≡ x ∷ parcels_from (from + 1) es →
        stored parcel_tag x (cond c (at_number from e ∷ parcels_from (from + 1) es) (parcels_from (from + 1) es))
        ≡ x ∷ cond c (at_number from e ∷ parcels_from (from + 1) es) (parcels_from (from + 1) es)
    at true ih = grind (arith, nat_tests)
    at false ih = ih

parcel_path : (x : Parcel) (n : ℕ) (ws : List ℕ) → x.tag.0 ≡ n → x.words ≡ ws → let y : Parcel = record { tag = record { 0 = n }; words = ws } in x ≡ y
parcel_path x n ws h e = λ i. record { tag = record { 0 = h i }; words = e i }

-- the entry of a datum that was put into the store
pub stored-from : (x : Parcel) (from i : ℕ) (es : List Entry) → x.tag.0 ≡ from + i → i < length es → parcels_from from (set es i (entry x.words)) ≡ stored parcel_tag x (parcels_from from es)
stored-from x from i [] e h = absurd (omega arith)
stored-from x from zero (y ∷ es) e h = at y.held
  where
    rest : List Parcel
    rest = parcels_from (from + 1) es

    at : (c : Bool) → (at_number from (entry x.words) ∷ parcels_from (from + 1) es)
        ≡ stored parcel_tag x (cond c (at_number from y ∷ parcels_from (from + 1) es) (parcels_from (from + 1) es))
    at true = rw (le-ltb x.tag.0 from (omega arith), eq-eqb x.tag.0 from (omega arith)) (ap (λ z. z ∷ parcels_from (from + 1) es) (sym (parcel_path x from x.words (omega arith) refl)))
    at false = ap (λ z. z ∷ parcels_from (from + 1) es) (sym (parcel_path x from x.words (omega arith) refl)) ∙ sym (stored-below x (from + 1) es (omega arith))
stored-from x from (suc i) (y ∷ es) e h = at y.held (stored-from x (from + 1) i es (omega arith) (omega arith))
  where
    at : (c : Bool) → parcels_from (from + 1) (set es i (entry x.words)) ≡ stored parcel_tag x (parcels_from (from + 1) es) →
        cond c (at_number from y ∷ parcels_from (from + 1) (set es i (entry x.words))) (parcels_from (from + 1) (set es i (entry x.words)))
        ≡ stored parcel_tag x (cond c (at_number from y ∷ parcels_from (from + 1) es) (parcels_from (from + 1) es))
    at true ih = rw (le-ltb x.tag.0 from (omega arith), ne_eqb x.tag.0 from (λ f. omega arith)) (ap (λ xs. at_number from y ∷ xs) ih)
    at false ih = ih

pub stored-store : (x : Parcel) (es : List Entry) → x.tag.0 < length es → store_of (set es x.tag.0 (entry x.words)) ≡ stored parcel_tag x (store_of es)
stored-store x es h = stored-from x 0 x.tag.0 es (omega arith) h

-- an entry, as it was looked up
pub looked_up : (es : List Entry) (d : ℕ) (e : Entry) → slice_get es d ≡ Some e → entry_at es d ≡ e
looked_up es d e h = get_or_from_slice_get es d e no_entry h

pub no_held : (es : List Entry) (d : ℕ) → slice_get es d ≡ None → (entry_at es d).held ≡ false
no_held [] d e = refl
no_held (x ∷ es) zero e = absurd (none-some x (sym e))
no_held (x ∷ es) (suc d) e = no_held es d e

-- nothing is there where no entry is held
pub store_none : (from : ℕ) (es : List Entry) → ((d : ℕ) → (entry_at es d).held ≡ false) → parcels_from from es ≡ []
store_none from [] h = refl
store_none from (e ∷ es) h = at e.held (h 0) (store_none (from + 1) es (λ d. h (suc d)))
  where
    at : (c : Bool) → c ≡ false → parcels_from (from + 1) es ≡ [] → cond c (at_number from e ∷ parcels_from (from + 1) es) (parcels_from (from + 1) es) ≡ []
    at true f ih = absurd (cc)
    at false f ih = ih
