-- What is computed of the tokens of a line is their outcome.
use Rattle.std.proofs.Common.{◌≡◌, ◌+◌, ◌<◌, ◌≤◌, List, [], ◌∷◌, Option, Some, None, Result, Ok, Err, cond, refl, sym, ap, subst, ◌∙◌, arith}
use Rattle.std.specs.Prelude.{◌≢◌}
use Rattle.std.proofs.lemmas.Bool.{lt-ltb, le-ltb}
use Rattle.pyr_num.specs.declared.limits.Quantity.TheVariants.{Depth}
use Rattle.pyr_num.specs.declared.limits.TheConstants.Limits.{DEPTH}
use Rattle.pyr_lex.specs.declared.token.Token.{Token}
use Rattle.pyr_lex.specs.Depth.{depth_of}
use Rattle.pyr_body.specs.declared.line_fault.LineFault.{LineFault}
use Rattle.pyr_body.specs.declared.line_fault.LineFault.TheVariants.{Text, Limit, Unknown, Memory}
use Rattle.pyr_body.specs.Written.{WrittenLine}
use Rattle.pyr_body.specs.Spelling.{line_tokens}
use Rattle.pyr_body.specs.Names.{Answers}
use Rattle.pyr_body.specs.Reading.{line_at}
use Rattle.pyr_body.specs.Taking.{LinesTaken, limit}
use Rattle.pyr_body.specs.Computed.{after_form, after_tokens}
use Rattle.pyr_body.specs.Reader.{IsOutcome, GoesOn}
use Rattle.pyr_body.proofs.LineLemmas.{line_again, line_sound, line_counted}

abbrev err_of : LineFault → Result LinesTaken LineFault
err_of fault = Err fault

module _ (taken : LinesTaken) where
  deep_outcome : (t : Token) (us : List Token) → DEPTH < depth_of (t ∷ us) → after_tokens taken (t ∷ us) ≡ Err (Limit Depth)
  deep_outcome t us d =
      ap (λ b. cond b (err_of (limit Depth)) (after_form taken (line_at (DEPTH + 1) (t ∷ us)))) (lt-ltb DEPTH (depth_of (t ∷ us)) d)

  form_outcome : (t : Token) (us : List Token) → depth_of (t ∷ us) ≤ DEPTH → after_tokens taken (t ∷ us) ≡ after_form taken (line_at (DEPTH + 1) (t ∷ us))
  form_outcome t us d =
      ap (λ b. cond b (err_of (limit Depth)) (after_form taken (line_at (DEPTH + 1) (t ∷ us)))) (le-ltb DEPTH (depth_of (t ∷ us)) d)

  line_outcome : (ts : List Token) (l : WrittenLine) → ts ≡ line_tokens l → depth_of ts ≤ DEPTH → line_at (DEPTH + 1) ts ≡ Some l
  line_outcome ts l e d =
      let k : depth_of ts ≡ depth_of (line_tokens l) = ap depth_of e in
      ap (line_at (DEPTH + 1)) e ∙ line_again l (DEPTH + 1) (omega (arith, k, d, line_counted l))

  text_outcome : (ts : List Token) (o : Option WrittenLine) → line_at (DEPTH + 1) ts ≡ o → ((l : WrittenLine) → ts ≢ line_tokens l) → after_form taken o ≡ Err Text
  text_outcome ts None e h = refl
  text_outcome ts (Some l) e h = absurd (h l (line_sound (DEPTH + 1) ts l e))

  pub outcome : (ts : List Token) → IsOutcome taken ts (after_tokens taken ts)
  outcome [] = record {
    empty = λ e. refl;
    deep = λ d. absurd (omega (arith, d));
    line = λ l. λ e. λ d. absurd (no_tokens l e);
    no_line = λ n. absurd (n refl);
  } where
    no_tokens : (l : WrittenLine) → [] ≡ line_tokens l → ⊥
    no_tokens l e = let s = line_outcome [] l e (omega arith) in let k : None ≡ Some l = s in cc
  outcome (t ∷ us) = record {
    empty = λ e. absurd (let k : t ∷ us ≡ [] = e in cc);
    deep = deep_outcome t us;
    line = λ l. λ e. λ d. form_outcome t us d ∙ ap (after_form taken) (line_outcome (t ∷ us) l e d);
    no_line = λ n. λ d. λ h. form_outcome t us d ∙ text_outcome (t ∷ us) (line_at (DEPTH + 1) (t ∷ us)) refl h;
  }

  -- a reader goes on so
  pub goes_on : (ts : List Token) (new : Result LinesTaken LineFault) → Answers (λ (x : LinesTaken). x) new (after_tokens taken ts) → GoesOn (Ok taken) ts new
  goes_on ts (Ok next) h = subst (IsOutcome taken ts) h (outcome ts)
  goes_on ts (Err Memory) h = tt
  goes_on ts (Err Text) h = subst (IsOutcome taken ts) h (outcome ts)
  goes_on ts (Err (Limit which)) h = subst (IsOutcome taken ts) h (outcome ts)
  goes_on ts (Err (Unknown name)) h = subst (IsOutcome taken ts) h (outcome ts)

pub went_on : (state : Result LinesTaken LineFault) (taken : LinesTaken) (ts : List Token) (new : Result LinesTaken LineFault)
    → state ≡ Ok taken → Answers (λ (x : LinesTaken). x) new (after_tokens taken ts) → GoesOn state ts new
went_on state taken ts new e h = subst (λ (s : Result LinesTaken LineFault). GoesOn s ts new) (sym e) (goes_on taken ts new h)
