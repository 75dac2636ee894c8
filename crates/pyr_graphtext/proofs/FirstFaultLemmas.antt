-- A text has one first faulty line at most, and none where all lines are fine.
use Rattle.std.proofs.Common.{◌≡◌, ℕ, ◌+◌, ◌<◌, Bool, true, false, not, inl, inr, List, [], ◌∷◌, length, Result, Ok, Err, refl, sym, ap, subst, ◌∙◌, arith}
use Rattle.std.specs.Prelude.{◌⊎◌, IsTrue}
use Rattle.std.proofs.lemmas.Bool.{cases_order}
use Rattle.pyr_graphtext.specs.declared.line_fault.LineFault.{LineFault}
use Rattle.pyr_graphtext.specs.Lines.{lines}
use Rattle.pyr_graphtext.specs.Line.{Line}
use Rattle.pyr_graphtext.specs.Earlier.{stage_of}
use Rattle.pyr_graphtext.specs.Faults.{is_outside}
use Rattle.pyr_graphtext.specs.Outcome.{IsOutcome}
use Rattle.pyr_graphtext.specs.FirstFault.{Say, onto, IsFaultyLine, IsFirstFault, IsFine}
use Rattle.pyr_graphtext.proofs.OneOutcome.{one_outcome, one_said}

pub length-onto : (older later : List (List ℕ)) → length (onto older later) ≡ length older + length later
length-onto [] later = omega arith
length-onto (l ∷ older) later = omega (arith, length-onto older (l ∷ later))

-- as many older lines before the later ones are the same ones
pub same_onto : (a b x y : List (List ℕ)) → length a ≡ length b → onto a x ≡ onto b y → (a ≡ b) × (x ≡ y)
same_onto [] [] x y n e = (refl, e)
same_onto [] (m ∷ b) x y n e = absurd (omega (arith, n))
same_onto (l ∷ a) [] x y n e = absurd (omega (arith, n))
same_onto (l ∷ a) (m ∷ b) x y n e =
    let more = same_onto a b (l ∷ x) (m ∷ y) (omega (arith, n)) e in
    let h : l ≡ m = heads l m x y more.1 in
    (ap (λ (k : List ℕ). k ∷ a) h ∙ ap (λ (ks : List (List ℕ)). m ∷ ks) more.0, tails l m x y more.1)
  where
    heads : (l m : List ℕ) (x y : List (List ℕ)) → l ∷ x ≡ m ∷ y → l ≡ m
    heads l m x y e = cc

    tails : (l m : List ℕ) (x y : List (List ℕ)) → l ∷ x ≡ m ∷ y → x ≡ y
    tails l m x y e = cc

-- what a line comes to behind lines that are fine, where it is fine too
abbrev IsFineAt : List (List ℕ) → List ℕ → Type 0
IsFineAt older line = (said : List Line) × (f : Line) × Say older said × IsOutcome said line (Ok f)

-- a line with a number within lines that are fine is fine
pub fine_at : (older : List (List ℕ)) (line : List ℕ) (later wide x : List (List ℕ)) (said : List Line)
    → onto older (line ∷ later) ≡ onto wide x → length older < length wide → Say wide said → IsFineAt older line
fine_at older line later [] x said e less say = absurd (omega (arith, less))
fine_at older line later (l ∷ wide) x [] e less say = absurd say
fine_at older line later (l ∷ wide) x (f ∷ said) e less say = by_order (cases_order (length older) (length wide)) (λ shorter. fine_at older line later wide (l ∷ x) said e shorter say.0) where
  by_order : (length older ≡ length wide) ⊎ ((length older < length wide) ⊎ (length wide < length older)) → (length older < length wide → IsFineAt older line) → IsFineAt older line
  by_order (inl same) shorter =
      let parts = same_onto older wide (line ∷ later) (l ∷ x) same e in
      let here : line ≡ l = cc parts.1 in
      (said, f, subst (λ o. Say o said) (sym parts.0) say.0, subst (λ k. IsOutcome said k (Ok f)) (sym here) say.1)
  by_order (inr (inl less')) shorter = shorter less'
  by_order (inr (inr more)) shorter = absurd (omega (arith, more, less))

abbrev ok_of : Line → Result Line LineFault
ok_of f = Ok f

abbrev err_of : LineFault → Result Line LineFault
err_of fault = Err fault

-- such a line is no faulty line
pub no_fault_within : (text : List ℕ) (n : ℕ) (fault : LineFault) (wide x : List (List ℕ)) (said : List Line)
    → (faulty : IsFaultyLine text n fault) → lines text ≡ onto wide x → length faulty.older < length wide → Say wide said → ⊥
no_fault_within text n fault wide x said faulty parts less say =
    let fine = fine_at faulty.older faulty.line faulty.later wide x said (sym faulty.parts ∙ parts) less say in
    let same : fine.0 ≡ faulty.said = one_said faulty.older fine.0 faulty.said fine.2 faulty.fine in
    let here : IsOutcome faulty.said faulty.line (Ok fine.1) = subst (λ s. IsOutcome s faulty.line (Ok fine.1)) same fine.3 in
    let e : ok_of fine.1 ≡ err_of fault = one_outcome faulty.said faulty.line (Ok fine.1) (Err fault) here faulty.faulty in cc

-- a line of the text stands before its end
before_end : (text : List ℕ) (n : ℕ) (fault : LineFault) (older : List (List ℕ)) → (faulty : IsFaultyLine text n fault) → lines text ≡ onto older [] → length faulty.older < length older
before_end text n fault older faulty parts =
    let a = ap length (sym faulty.parts ∙ parts) in
    omega (arith, a, length-onto faulty.older (faulty.line ∷ faulty.later), length-onto older [])

-- the lines up to the end are the same ones
pub same_whole : (text : List ℕ) (a b : List (List ℕ)) → lines text ≡ onto a [] → lines text ≡ onto b [] → a ≡ b
same_whole text a b p q =
    let e = sym p ∙ q in
    let n = ap length e in
    (same_onto a b [] [] (omega (arith, n, length-onto a [], length-onto b [])) e).0

-- lines without fault say one thing
pub one_fine : (text : List ℕ) (s t : List Line) → IsFine text s → IsFine text t → s ≡ t
one_fine text s t f g =
    let same = same_whole text f.older g.older f.parts g.parts in
    one_said g.older s t (subst (λ o. Say o s) same f.fine) g.fine

-- a text that is fine has no first fault
pub fine_or_faulty : (text : List ℕ) (said : List Line) (n : ℕ) (fault : LineFault) → IsFine text said → IsFirstFault text n fault → ⊥
fine_or_faulty text said n fault fine (inl faulty) =
    no_fault_within text n fault fine.older [] said faulty fine.parts (before_end text n fault fine.older faulty fine.parts) fine.fine
fine_or_faulty text said n fault fine (inr end) =
    let same = same_whole text fine.older end.older fine.parts end.parts in
    let s : said ≡ end.said = one_said end.older said end.said (subst (λ o. Say o said) same fine.fine) end.fine in
    both (is_outside (stage_of said)) fine.closed (subst (λ t. IsTrue (not (is_outside (stage_of t)))) (sym s) end.still_open)
  where
    both : (b : Bool) → IsTrue b → IsTrue (not b) → ⊥
    both true p q = cc
    both false p q = cc

-- and the first fault is one
pub one_first_fault : (text : List ℕ) (n m : ℕ) (f g : LineFault) → IsFirstFault text n f → IsFirstFault text m g → (n ≡ m) × (f ≡ g)
one_first_fault text n m f g (inl a) (inl b) = by_order (cases_order (length a.older) (length b.older)) where
  by_order : (length a.older ≡ length b.older) ⊎ ((length a.older < length b.older) ⊎ (length b.older < length a.older)) → (n ≡ m) × (f ≡ g)
  by_order (inl same) =
      let parts = same_onto a.older b.older (a.line ∷ a.later) (b.line ∷ b.later) same (sym a.parts ∙ b.parts) in
      let here : a.line ≡ b.line = cc parts.1 in
      let said : a.said ≡ b.said = one_said b.older a.said b.said (subst (λ o. Say o a.said) parts.0 a.fine) b.fine in
      let outcome : IsOutcome b.said b.line (Err f) = subst (λ s. IsOutcome s b.line (Err f)) said (subst (λ l. IsOutcome a.said l (Err f)) here a.faulty) in
      (omega (arith, a.number, b.number, same), same_err f g (one_outcome b.said b.line (Err f) (Err g) outcome b.faulty))
    where
      same_err : (f g : LineFault) → err_of f ≡ err_of g → f ≡ g
      same_err f g e = cc
  by_order (inr (inl less)) = absurd (no_fault_within text n f b.older (b.line ∷ b.later) b.said a b.parts less b.fine)
  by_order (inr (inr more)) = absurd (no_fault_within text m g a.older (a.line ∷ a.later) a.said b a.parts more a.fine)
one_first_fault text n m f g (inl a) (inr b) = absurd (no_fault_within text n f b.older [] b.said a b.parts (before_end text n f b.older a b.parts) b.fine)
one_first_fault text n m f g (inr a) (inl b) = absurd (no_fault_within text m g a.older [] a.said b a.parts (before_end text m g a.older b a.parts) a.fine)
one_first_fault text n m f g (inr a) (inr b) =
    let same = ap length (same_whole text a.older b.older a.parts b.parts) in
    (omega (arith, a.number, b.number, same), a.text_fault ∙ sym b.text_fault)
