-- The numbers that lines give to names, kept by number.
use Rattle.std.proofs.Common.{◌≡◌, ◌≢◌, ℕ, ◌≤◌, ◌<◌, true, false, Option, Some, None, List, [], length, set, get_or, unwrap_or, inl, inr, arith, refl, sym, ap, ◌∙◌, get_or-set_other, get_or-set_same, length-set}
use Rattle.std.specs.Prelude.{◌⊎◌, AllPairs, bytes_eq, is_some, replicate, if◌then◌else◌}
use Rattle.std.proofs.lemmas.Bool.{cases_Bool, cases_eq, cases_lt, lt-ltb, le-ltb}
use Rattle.std.proofs.lemmas.List.{get_or_past, get_or-replicate, length-replicate}
use Rattle.pyr_num.specs.declared.limits.Quantity.{Quantity}
use Rattle.pyr_num.specs.declared.name.Name.{Name}
use Rattle.pyr_graphtext.specs.declared.program_fault.NameKind.TheVariants.{Unknown, Duplicate}
use Rattle.pyr_graphtext.specs.Statements.{is_among, place_of}
use Rattle.pyr_graphtext.proofs.NameLemmas.{place_below, place_holds}
use Rattle.pyr_graphtext.proofs.NumberedNames.{same_bytes, other_bytes, place_is}
use Rattle.pyr_simul.specs.declared.duration_fault.DurationFault.TheVariants.{Limit, Names}
use Rattle.pyr_simul.specs.declared.given.Given.{Given}
use Rattle.pyr_simul.specs.Reading.{number_fault}
use Rattle.pyr_simul.specs.Taking.{AreGiven}

-- a name that has a number already
pub is_repeated : (n : ℕ) (which : Quantity) (most : ℕ) (names : List Name) (given : Option ℕ) (name : Name) (number : ℕ) → number ≤ most
    → is_among names name ≡ true → is_some given ≡ true → number_fault n which most names given name number ≡ Some (Names n Duplicate name)
is_repeated n which most names given name number small known has = rw (le-ltb most number small, known, has) refl

-- a number without fault
pub fine_number : (n : ℕ) (which : Quantity) (most : ℕ) (names : List Name) (given : Option ℕ) (name : Name) (number : ℕ)
    → number_fault n which most names given name number ≡ None → (number ≤ most) × (is_among names name ≡ true)
fine_number n which most names given name number fine = elim (cases_lt most number) [
  | inl above ↦ absurd (let z : Some (Limit n which) ≡ None = rw (lt-ltb most number above) at fine in cc)
  | inr within ↦ elim (cases_Bool (is_among names name)) [
    | inl known ↦ (within, known)
    | inr unknown ↦ absurd (let z : Some (Names n Unknown name) ≡ None = rw (le-ltb most number within, unknown) at fine in cc)
  ]
]

module _ (names : List Name) (differ : AllPairs (λ a b. a ≢ b) names) (given : Name → Option ℕ) (most : ℕ) (g : Given) (are : AreGiven names given most g) where
  -- the test of a number finds what the lines give
  pub same_fault : (n : ℕ) (which : Quantity) (name : Name) (number : ℕ)
      → number_fault n which most g.names (get_or g.numbers.items (place_of g.names name) None) name number ≡ number_fault n which most names (given name) name number
  same_fault n which name number = rw are.named (by_name (cases_Bool (is_among names name)))
    where
      by_name : (is_among names name ≡ true) ⊎ (is_among names name ≡ false)
          → number_fault n which most names (get_or g.numbers.items (place_of names name) None) name number ≡ number_fault n which most names (given name) name number
      by_name (inl known) =
          ap (λ (o : Option ℕ). number_fault n which most names o name number)
          (are.each (place_of names name) (place_below names name known) ∙ ap given (sym (place_holds names name known)))
      by_name (inr unknown) = rw unknown refl

  module _ (name : Name) (number : ℕ) (known : is_among names name ≡ true) (small : number ≤ most) (h : Given) (named : h.names ≡ g.names)
      (put : h.numbers.items ≡ set g.numbers.items (place_of g.names name) (Some number)) where
    abbrev at : ℕ
    at = place_of names name

    put-at : h.numbers.items ≡ set g.numbers.items at (Some number)
    put-at = put ∙ ap (λ (ns : List Name). set g.numbers.items (place_of ns name) (Some number)) are.named

    within : at < length g.numbers.items
    within = omega (arith, are.full, place_below names name known)

    here : get_or h.numbers.items at None ≡ Some number
    here = ap (λ (os : List (Option ℕ)). get_or os at None) put-at ∙ get_or-set_same g.numbers.items at (Some number) None within

    other : (i : ℕ) → i ≢ at → get_or h.numbers.items i None ≡ get_or g.numbers.items i None
    other i apart = ap (λ (os : List (Option ℕ)). get_or os i None) put-at ∙ get_or-set_other g.numbers.items at i (Some number) None apart

    abbrev more : Name → Option ℕ
    more x = if bytes_eq x name then Some number else given x

    each' : (i : ℕ) → i < length names → get_or h.numbers.items i None ≡ more (get_or names i [])
    each' i i_in = elim (cases_eq i at) [
      | inl same ↦ (
          let holds : get_or names i [] ≡ name = ap (λ (k : ℕ). get_or names k []) same ∙ sym (place_holds names name known) in
          rw (same_bytes (get_or names i []) name holds) (ap (λ (k : ℕ). get_or h.numbers.items k None) same ∙ here))
      | inr apart ↦ (
          let differs : get_or names i [] ≢ name = λ same. apart (sym (place_is names differ i i_in) ∙ ap (place_of names) same) in
          rw (other_bytes (get_or names i []) name differs) (other i apart ∙ are.each i i_in))
    ]

    small' : (i : ℕ) → unwrap_or (get_or h.numbers.items i None) 0 ≤ most
    small' i = elim (cases_eq i at) [
      | inl same ↦ rw (same, here) small
      | inr apart ↦ rw (other i apart) (are.small i)
    ]

    -- one number more
    pub AreGiven-more : AreGiven names (λ (x : Name). if bytes_eq x name then Some number else given x) most h
    AreGiven-more = record {
      named = named ∙ are.named;
      full = ap length put-at ∙ length-set g.numbers.items at (Some number) ∙ are.full;
      each = each';
      small = small';
    }

abbrev no_one : Option ℕ
no_one = None

no_number : (n i : ℕ) → get_or (replicate n no_one) i no_one ≡ no_one
no_number n i = elim (cases_lt i n) [
  | inl less ↦ get_or-replicate n i no_one no_one less
  | inr past ↦ get_or_past (replicate n no_one) i no_one (omega (arith, past, length-replicate n no_one))
]

-- nothing is given yet
pub AreGiven-none : (names : List Name) (most : ℕ) (g : Given) → g.names ≡ names → g.numbers.items ≡ replicate (length names) None → AreGiven names (λ x. None) most g
AreGiven-none names most g named none = record {
  named = named;
  full = ap length none ∙ length-replicate (length names) None;
  each = λ i i_in. nothing i;
  small = λ i. rw (nothing i) (omega arith);
}
  where
    nothing : (i : ℕ) → get_or g.numbers.items i None ≡ None
    nothing i = ap (λ (os : List (Option ℕ)). get_or os i None) none ∙ no_number (length names) i
