-- A line comes to one outcome behind the lines before it.
use Rattle.std.proofs.Common.{◌≡◌, ℕ, ◌≤◌, ◌<◌, Bool, true, false, inl, inr, List, [], ◌∷◌, Option, Some, None, Result, Ok, refl, sym, ap, subst, ◌∙◌, arith}
use Rattle.std.specs.Prelude.{◌⊎◌, IsTrue}
use Rattle.std.proofs.lemmas.Bool.{cases_lt}
use Rattle.pyr_num.specs.declared.limits.TheConstants.Limits.{DEPTH}
use Rattle.pyr_lex.specs.declared.token.Token.{Token}
use Rattle.pyr_lex.specs.Depth.{depth_of}
use Rattle.pyr_lex.specs.Reading.{tokens_of}
use Rattle.pyr_graphtext.specs.declared.line_fault.LineFault.{LineFault}
use Rattle.pyr_graphtext.specs.Line.{Line, tokens_of_line}
use Rattle.pyr_graphtext.specs.Earlier.{stage_of}
use Rattle.pyr_graphtext.specs.Faults.{is_outside, fault_behind}
use Rattle.pyr_graphtext.specs.Outcome.{is_statement, IsShallow, told, IsTokensOutcome, IsOutcome}
use Rattle.pyr_graphtext.specs.FirstFault.{Say}
use Rattle.pyr_graphtext.proofs.LineForms.{line_is_one, line_decided, IsDecided}

abbrev ok_of : Line → Result Line LineFault
ok_of k = Ok k

-- too many brackets of a line of a body are open at once, or no limit on the depth is passed
abbrev pub IsDeep : Bool → List Token → Type 0
IsDeep outside ts = IsTrue (is_statement outside ts) × (DEPTH < depth_of ts)

pub deep_or_shallow : (outside : Bool) (ts : List Token) → IsDeep outside ts ⊎ IsShallow outside ts
deep_or_shallow outside ts = by_test (is_statement outside ts) refl (cases_lt DEPTH (depth_of ts)) where
  by_test : (b : Bool) → is_statement outside ts ≡ b → (DEPTH < depth_of ts) ⊎ (depth_of ts ≤ DEPTH) → IsDeep outside ts ⊎ IsShallow outside ts
  by_test true e (inl deep) = inl (e, deep)
  by_test true e (inr shallow) = inr (λ s. shallow)
  by_test false e d = inr (λ s. absurd (let k : false ≡ true = sym e ∙ s in cc))

module _ (older : List Line) where
  -- tokens come to one outcome
  pub one_tokens_outcome : (ts : List Token) (a b : Result Line LineFault) → IsTokensOutcome older ts a → IsTokensOutcome older ts b → a ≡ b
  one_tokens_outcome ts a b o p = by_depth (deep_or_shallow (is_outside (stage_of older)) ts) where
    by_line : IsShallow (is_outside (stage_of older)) ts → IsDecided ts → a ≡ b
    by_line shallow (inl found) = o.line shallow found.0 found.1 ∙ sym (p.line shallow found.0 found.1)
    by_line shallow (inr none) = o.no_line shallow none ∙ sym (p.no_line shallow none)

    by_depth : IsDeep (is_outside (stage_of older)) ts ⊎ IsShallow (is_outside (stage_of older)) ts → a ≡ b
    by_depth (inl deep) = o.deep deep.0 deep.1 ∙ sym (p.deep deep.0 deep.1)
    by_depth (inr shallow) = by_line shallow (line_decided (is_outside (stage_of older)) ts shallow)

  pub one_outcome : (line : List ℕ) (a b : Result Line LineFault) → IsOutcome older line a → IsOutcome older line b → a ≡ b
  one_outcome line a b o p = by_tokens (tokens_of line) refl where
    by_tokens : (r : Option (List Token)) → tokens_of line ≡ r → a ≡ b
    by_tokens None e = o.no_tokens e ∙ sym (p.no_tokens e)
    by_tokens (Some ts) e = one_tokens_outcome ts a b (o.tokens ts e) (p.tokens ts e)

  -- a line that passes its tests is what its tokens come to
  pub line_outcome : (l : Line) → IsShallow (is_outside (stage_of older)) (tokens_of_line l) → fault_behind older l ≡ None → IsTokensOutcome older (tokens_of_line l) (Ok l)
  line_outcome l shallow fine = record {
    deep = λ s. λ d. absurd (omega (arith, d, shallow s));
    line = λ _. λ m. λ e. let same : m ≡ l = sym (line_is_one l m e) in
        subst (λ k. ok_of l ≡ told (fault_behind older k) k) (sym same) (sym (ap (λ (o : Option LineFault). told o l) fine));
    no_line = λ _. λ none. absurd (none l refl);
  }

-- lines say one thing
pub one_said : (older : List (List ℕ)) (s t : List Line) → Say older s → Say older t → s ≡ t
one_said [] [] [] p q = refl
one_said [] [] (g ∷ t) p q = absurd q
one_said [] (f ∷ s) t p q = absurd p
one_said (l ∷ older) [] t p q = absurd p
one_said (l ∷ older) (f ∷ s) [] p q = absurd q
one_said (l ∷ older) (f ∷ s) (g ∷ t) p q =
    let before : s ≡ t = one_said older s t p.0 q.0 in
    let here : IsOutcome t l (Ok f) = subst (λ k. IsOutcome k l (Ok f)) before p.1 in
    same_head f g s t (one_outcome t l (Ok f) (Ok g) here q.1) before
  where
    same_head : (f g : Line) (s t : List Line) → ok_of f ≡ ok_of g → s ≡ t → f ∷ s ≡ g ∷ t
    same_head f g s t e before = let h : f ≡ g = cc in ap (λ (k : Line). k ∷ s) h ∙ ap (λ (ks : List Line). g ∷ ks) before
