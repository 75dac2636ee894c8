-- One text stands for one bundle at most, has one fault at most, and not both.
use Rattle.std.proofs.Common.{◌≡◌, ◌≢◌, ℕ, zero, suc, ◌+◌, ◌<◌, List, [], ◌∷◌, ◌++◌, length, Some, ◌⊎◌, inl, inr, refl, sym, ap, subst, ◌∙◌, arith}
use Rattle.std.proofs.lemmas.List.{append_assoc, append-nil}
use Rattle.std.proofs.lemmas.Bool.{cases_eq}
use Rattle.pyr_num.specs.declared.limits.Quantity.{Quantity}
use Rattle.pyr_bundle.specs.declared.raw_bundle.RawBundle.{RawBundle}
use Rattle.pyr_bundletext.specs.declared.bundle_text_fault.BundleTextFault.{BundleTextFault}
use Rattle.pyr_bundletext.specs.declared.bundle_text_fault.BundleTextFault.TheVariants.{BadText, Limit, Memory}
use Rattle.pyr_bundletext.specs.declared.line.Line.{Line}
use Rattle.pyr_bundletext.specs.declared.stage.Stage.TheVariants as stages
use Rattle.pyr_bundletext.specs.Line.{line_text, text_said}
use Rattle.pyr_bundletext.specs.Earlier.{said_by, raw_said, stage_of}
use Rattle.pyr_bundletext.specs.Faults.{passed_limit}
use Rattle.pyr_bundletext.specs.Answer.{StandsFor, IsFineBehind, AreFine, IsBadText, PassesLimit, IsFirstFault, IsFaultOf, OneAnswerIsTold}
use Rattle.pyr_bundletext.proofs.LineLemmas.{one_line}
use Rattle.pyr_bundletext.proofs.ReadingLemmas.{nothing_behind}
use Rattle.pyr_bundletext.proofs.WritingLemmas.{IsWhole, whole_written}

-- as many fine lines at the front of one text are the same lines
same_said : (said other : List Line) (xs ys : List ℕ) → AreFine said → AreFine other → length said ≡ length other
    → text_said said ++ xs ≡ text_said other ++ ys → (said ≡ other) × (xs ≡ ys)
same_said [] [] xs ys f g e t = (refl, t)
same_said [] (m ∷ other) xs ys f g e t = absurd (omega (arith, e))
same_said (l ∷ said) [] xs ys f g e t = absurd (omega (arith, e))
same_said (l ∷ said) (m ∷ other) xs ys f g e t =
    let older = same_said said other (line_text l ++ xs) (line_text m ++ ys) f.0 g.0 (omega (arith, e))
    (sym (append_assoc (text_said said) (line_text l) xs) ∙ t ∙ append_assoc (text_said other) (line_text m) ys) in
    let newest = one_line l m xs ys f.1.is_line g.1.is_line older.1 in
    (ap (λ (x : Line). x ∷ said) newest.0 ∙ ap (λ (x : List Line). m ∷ x) older.0, newest.1)

-- a fine line goes on behind these
record GoesOn (said : List Line) (xs : List ℕ) : Type 0 where
  l : Line
  others : List ℕ
  fine : IsFineBehind said l
  begins : xs ≡ line_text l ++ others

-- where more fine lines stand at the front of a text, one goes on
longer : (said other : List Line) (xs ys : List ℕ) → AreFine said → AreFine other → length said < length other
    → text_said said ++ xs ≡ text_said other ++ ys → GoesOn said xs
longer said [] xs ys f g e t = absurd (omega (arith, e))
longer said (m ∷ other) xs ys f g e t = go (longer said other xs (line_text m ++ ys) f g.0) (cases_eq (length said) (length other))
  where
    texts : text_said said ++ xs ≡ text_said other ++ (line_text m ++ ys)
    texts = t ∙ append_assoc (text_said other) (line_text m) ys

    go : (length said < length other → text_said said ++ xs ≡ text_said other ++ (line_text m ++ ys) → GoesOn said xs)
        → (length said ≡ length other) ⊎ (length said ≡ length other → ⊥) → GoesOn said xs
    go ih (inl same) =
        let older = same_said said other xs (line_text m ++ ys) f g.0 same texts in
        record {
          l = m;
          others = ys;
          fine = subst (λ (x : List Line). IsFineBehind x m) (sym older.0) g.1;
          begins = older.1;
        }
    go ih (inr differ) = ih (omega (arith, e, differ)) texts

-- what goes on is no fault, and nothing goes on behind the last line

bad_stays : (said : List Line) (xs : List ℕ) → IsBadText said xs → GoesOn said xs → ⊥
bad_stays said xs bad on = bad.none on.l on.others on.fine.is_line on.begins on.fine.stands

limit_stays : (said : List Line) (xs : List ℕ) (which : Quantity) → PassesLimit said xs which → GoesOn said xs → ⊥
limit_stays said xs which past on =
    let same = one_line past.l on.l past.others on.others past.is_line on.fine.is_line (sym past.begins ∙ on.begins) in
    let limit : passed_limit (said_by said) on.l ≡ Some which = subst (λ (x : Line). passed_limit (said_by said) x ≡ Some which) same.0 past.limit in
    let none = on.fine.limits in
    absurd cc

end_stays : (said : List Line) (xs : List ℕ) → stage_of said ≡ stages.Stopped → GoesOn said xs → ⊥
end_stays said xs stopped on = nothing_behind (said_by said) on.l stopped on.fine.stands

-- two numbers of lines
compared : (m n : ℕ) → (m < n) ⊎ (n < m) ⊎ (m ≡ n)
compared zero zero = inr (inr refl)
compared zero (suc n) = inl (omega arith)
compared (suc m) zero = inr (inl (omega arith))
compared (suc m) (suc n) = go (compared m n)
  where
    go : (m < n) ⊎ (n < m) ⊎ (m ≡ n) → (suc m < suc n) ⊎ (suc n < suc m) ⊎ (suc m ≡ suc n)
    go (inl h) = inl (omega (arith, h))
    go (inr (inl h)) = inr (inl (omega (arith, h)))
    go (inr (inr h)) = inr (inr (ap suc h))

-- Two places of one text where nothing goes on are one place.
one_place : (said other : List Line) (xs ys : List ℕ) → AreFine said → AreFine other → text_said said ++ xs ≡ text_said other ++ ys
    → (GoesOn said xs → ⊥) → (GoesOn other ys → ⊥) → (said ≡ other) × (xs ≡ ys)
one_place said other xs ys f g t halts stays = go (compared (length said) (length other))
  where
    go : (length said < length other) ⊎ (length other < length said) ⊎ (length said ≡ length other) → (said ≡ other) × (xs ≡ ys)
    go (inl less) = absurd (halts (longer said other xs ys f g less t))
    go (inr (inl more)) = absurd (stays (longer other said ys xs g f more (sym t)))
    go (inr (inr same)) = same_said said other xs ys f g same t

-- faults

module _ (text : List ℕ) (m n : ℕ) (IsFault IsOther : List Line → List ℕ → Type 0)
    (h : IsFirstFault text m IsFault) (k : IsFirstFault text n IsOther)
    (halts : (said : List Line) (xs : List ℕ) → IsFault said xs → GoesOn said xs → ⊥)
    (stays : (said : List Line) (xs : List ℕ) → IsOther said xs → GoesOn said xs → ⊥) where
  abbrev place : (h.older ≡ k.older) × (h.rest ≡ k.rest)
  place =
      one_place h.older k.older h.rest k.rest h.fine k.fine (sym h.parts ∙ k.parts) (halts h.older h.rest h.faulty) (stays k.older k.rest k.faulty)

  one_number : m ≡ n
  one_number = h.number ∙ ap (λ (x : List Line). length x + 1) place.0 ∙ sym k.number

  other_there : IsOther h.older h.rest
  other_there =
      subst (λ (x : List ℕ). IsOther h.older x) (sym place.1) (subst (λ (x : List Line). IsOther x k.rest) (sym place.0) k.faulty)

bad_or_past : (said : List Line) (xs : List ℕ) (which : Quantity) → IsBadText said xs → PassesLimit said xs which → ⊥
bad_or_past said xs which bad past = bad.none past.l past.others past.is_line past.begins past.stands

one_limit : (said : List Line) (xs : List ℕ) (which other : Quantity) → PassesLimit said xs which → PassesLimit said xs other → which ≡ other
one_limit said xs which other h k =
    let same = one_line h.l k.l h.others k.others h.is_line k.is_line (sym h.begins ∙ k.begins) in
    let limits : Some which ≡ Some other = sym h.limit ∙ ap (passed_limit (said_by said)) same.0 ∙ k.limit in
    cc

one_fault_is : (text : List ℕ) (fault other : BundleTextFault) → fault ≢ Memory → other ≢ Memory
    → IsFaultOf text fault → IsFaultOf text other → fault ≡ other
one_fault_is text Memory other a b h k = absurd (a refl)
one_fault_is text (BadText m) Memory a b h k = absurd (b refl)
one_fault_is text (Limit m which) Memory a b h k = absurd (b refl)
one_fault_is text (BadText m) (BadText n) a b h k =
    ap BadText (one_number text m n IsBadText IsBadText h k bad_stays bad_stays)
one_fault_is text (BadText m) (Limit n which) a b h k =
    absurd (bad_or_past h.older h.rest which h.faulty
    (other_there text m n IsBadText (λ older rest. PassesLimit older rest which) h k bad_stays (λ said xs. limit_stays said xs which)))
one_fault_is text (Limit m which) (BadText n) a b h k =
    absurd (bad_or_past k.older k.rest which k.faulty
    (other_there text n m IsBadText (λ older rest. PassesLimit older rest which) k h bad_stays (λ said xs. limit_stays said xs which)))
one_fault_is text (Limit m which) (Limit n second) a b h k =
    let number = one_number text m n (λ older rest. PassesLimit older rest which) (λ older rest. PassesLimit older rest second) h k (λ said xs. limit_stays said xs which) (λ said xs. limit_stays said xs second) in
    let there = other_there text m n (λ older rest. PassesLimit older rest which) (λ older rest. PassesLimit older rest second) h k (λ said xs. limit_stays said xs which) (λ said xs. limit_stays said xs second) in
    let limit : which ≡ second = one_limit h.older h.rest which second h.faulty there in
    ap (λ (x : ℕ). Limit x which) number ∙ ap (Limit n) limit

-- texts of bundles

module _ (text : List ℕ) (raw : RawBundle) (h : StandsFor text raw) where
  abbrev lines_of : IsWhole raw h.limits h.spelled
  lines_of = whole_written raw h.limits h.spelled

  whole_text : text ≡ text_said lines_of.said ++ []
  whole_text = h.written ∙ sym lines_of.text_is ∙ sym (append-nil (text_said lines_of.said))

  -- a fault would stand at its end
  at_end : (n : ℕ) (IsFault : List Line → List ℕ → Type 0) (k : IsFirstFault text n IsFault)
      → ((said : List Line) (xs : List ℕ) → IsFault said xs → GoesOn said xs → ⊥)
      → (lines_of.said ≡ k.older) × ([] ≡ k.rest)
  at_end n IsFault k stays =
      one_place lines_of.said k.older [] k.rest lines_of.fine k.fine (sym whole_text ∙ k.parts) (end_stays lines_of.said [] lines_of.stopped) (stays k.older k.rest k.faulty)

one_bundle_is : (text : List ℕ) (raw other : RawBundle) → StandsFor text raw → StandsFor text other → raw ≡ other
one_bundle_is text raw other h k =
    let first = lines_of text raw h in
    let second = lines_of text other k in
    let place = one_place first.said second.said [] [] first.fine second.fine (sym (whole_text text raw h) ∙ whole_text text other k)
    (end_stays first.said [] first.stopped) (end_stays second.said [] second.stopped) in
    sym first.raw_is ∙ ap (λ (x : List Line). raw_said (said_by x)) place.0 ∙ second.raw_is

never_both : (text : List ℕ) (raw : RawBundle) (fault : BundleTextFault) → fault ≢ Memory → StandsFor text raw → IsFaultOf text fault → ⊥
never_both text raw Memory a h k = a refl
never_both text raw (BadText n) a h k =
    let place = at_end text raw h n IsBadText k bad_stays in
    k.faulty.goes_on (ap stage_of (sym place.0) ∙ (lines_of text raw h).stopped) (sym place.1)
never_both text raw (Limit n which) a h k =
    let place = at_end text raw h n (λ older rest. PassesLimit older rest which) k (λ said xs. limit_stays said xs which) in
    nothing_behind (said_by k.older) k.faulty.l (ap stage_of (sym place.0) ∙ (lines_of text raw h).stopped) k.faulty.stands

pub one_answer : OneAnswerIsTold
one_answer = record { one_bundle = one_bundle_is; one_fault = one_fault_is; not_both = never_both }
