-- What is computed of a line is its tokens.
use Rattle.std.proofs.Common.{◌≡◌, ℕ, zero, suc, ◌+◌, ◌-◌, ◌≤◌, true, false, eqb, List, [], ◌∷◌, ◌++◌, length, get_or, take, drop, length-append, length-drop, drop-drop, Some, None, refl, sym, ap, ◌∙◌, subst, inl, inr, arith}
use Rattle.std.specs.Prelude.{slice_range}
use Rattle.std.specs.Option.{option_map}
use Rattle.std.specs.List.{list_all}
use Rattle.std.proofs.Math.Nat.{sub_self, add-sub_cancel_left}
use Rattle.std.proofs.lemmas.Bool.{cases_Bool}
use Rattle.std.proofs.lemmas.Bool.Decides.{nat_tests}
use Rattle.std.proofs.lemmas.List.{drop_more, drop_at, length-take-le}
use Rattle.std.proofs.lemmas.List.Folds.{drop_split}
use Rattle.pyr_decimal.proofs.Choices.{both, mapped, cases_Option}
use Rattle.pyr_lex.specs.declared.token.Token.{Token}
use Rattle.pyr_lex.specs.declared.spanned_token.SpannedToken.{SpannedToken}
use Rattle.pyr_lex.specs.Token.{IsToken, token_text}
use Rattle.pyr_lex.specs.Line.{is_blank, has_no_token, ends_before, IsNextToken, AreTokensFrom, AreTokensOf, HasTokens}
use Rattle.pyr_lex.specs.Reading.{front_token, with_token, tokens_from, spanned_tokens_of}
use Rattle.pyr_lex.specs.Laws.{ReadingIsUnique, ReadingIsExact}
use Rattle.pyr_lex.proofs.Steps.{comment, blank, no_token, first_token, a_token, nothing_left}
use Rattle.pyr_lex.proofs.Fronts.{IsFront, front_is, front_only, token_starts}

-- ---- what is read are the line's tokens

-- the next byte, and what is left behind it
rest_behind : (line : List ℕ) (at b : ℕ) (bs : List ℕ) → drop at line ≡ b ∷ bs → drop (at + 1) line ≡ bs
rest_behind line at b bs e = sym (drop-drop 1 at line) ∙ ap (drop 1) e

blank_before : (line : List ℕ) (at b : ℕ) (bs : List ℕ) (ts : List SpannedToken) → drop at line ≡ b ∷ bs → eqb b 35 ≡ false → is_blank b ≡ true
    → AreTokensFrom line (at + 1) ts → AreTokensFrom line at ts
blank_before line at b bs [] e sign h later =
    let none : has_no_token bs ≡ true = ap has_no_token (sym (rest_behind line at b bs e)) ∙ later in rw (e, sign, h, none) refl
blank_before line at b bs (t ∷ ts) e sign h later =
    let next : IsNextToken line (at + 1) t = later.0 in
    let behind = next.behind in
    let step : t.from - at ≡ suc (t.from - (at + 1)) = omega arith in
    let wider : slice_range line at t.from ≡ b ∷ slice_range line (at + 1) t.from =
    ap (λ (n : ℕ). take n (drop at line)) step ∙ ap (take (suc (t.from - (at + 1)))) e ∙ ap (λ (xs : List ℕ). b ∷ take (t.from - (at + 1)) xs) (sym (rest_behind line at b bs e)) in (
      record {
        token = next.token;
        behind = omega arith;
        blanks = rw (wider, h) next.blanks;
        some = next.some;
        within = next.within;
        text = next.text;
        longest = next.longest;
      },
      later.1,
    )

next_here : (line : List ℕ) (at : ℕ) (t : Token) (n : ℕ) → IsFront (drop at line) t n → IsNextToken line at (record { token = t; from = at; to = at + n })
next_here line at t n front =
    let size : length (drop at line) ≡ length line - at = length-drop at line in
    let some = front.some in
    let within = front.within in
    record {
      token = front.token;
      behind = omega arith;
      blanks = rw (sub_self at) refl;
      some = omega arith;
      within = omega arith;
      text = rw (add-sub_cancel_left at n) front.text;
      longest = rw (← drop-drop n at line) front.ends;
    }

only : (line bytes : List ℕ) (taken at : ℕ) (ts : List SpannedToken) → drop at line ≡ bytes → taken ≤ length bytes → tokens_from taken at bytes ≡ Some ts → AreTokensFrom line (at + taken) ts
unfolding tokens_from
only line [] zero at ts e le h =
    let none : [] ≡ ts = cc in
    subst (AreTokensFrom line (at + 0)) none (let same : at + 0 ≡ at = omega arith in rw (same, e) refl)
only line [] (suc taken) at ts e le h = absurd (omega arith)
only line (b ∷ bs) (suc taken) at ts e le h =
    let same : at + 1 + taken ≡ at + suc taken = omega arith in
    subst (λ (n : ℕ). AreTokensFrom line n ts) same (only line bs taken (at + 1) ts (rest_behind line at b bs e) (omega arith) h)
only line (b ∷ bs) zero at ts e le h =
    let same : at ≡ at + 0 = omega arith in
    subst (λ (n : ℕ). AreTokensFrom line n ts) same (elim (cases_Bool (eqb b 35)) [
      | inl sign ↦ (let none : [] ≡ ts = (let read = comment b at bs sign in cc) in subst (AreTokensFrom line at) none (rw (e, sign) refl))
      | inr sign ↦ elim (cases_Bool (is_blank b)) [
        | inl is ↦ (let later : AreTokensFrom line (at + 1 + 0) ts = only line bs 0 (at + 1) ts (rest_behind line at b bs e) (omega arith) (sym (blank b at bs sign is) ∙ h) in
            let zero_more : at + 1 + 0 ≡ at + 1 = omega arith in blank_before line at b bs ts e sign is (subst (λ (n : ℕ). AreTokensFrom line n ts) zero_more later))
        | inr not_blank ↦ elim (cases_Option (front_token (b ∷ bs))) [
          | inl front ↦ (let t : Token × ℕ = front.0 in
              let is : IsFront (b ∷ bs) t.0 t.1 = front_only (b ∷ bs) t front.1 in
              let others = mapped (with_token at t) (tokens_from (t.1 - 1) (at + 1) bs) ts (sym (first_token b at bs t sign not_blank front.1) ∙ h) in
              let some = is.some in
              let within = is.within in
              let later : AreTokensFrom line (at + 1 + (t.1 - 1)) others.0 = only line bs (t.1 - 1) (at + 1) others.0 (rest_behind line at b bs e) (omega arith) others.1 in
              let behind : at + 1 + (t.1 - 1) ≡ at + t.1 = omega arith in
              subst (AreTokensFrom line at) others.2 (next_here line at t.0 t.1 (subst (λ (xs : List ℕ). IsFront xs t.0 t.1) (sym e) is), subst (λ (n : ℕ). AreTokensFrom line n others.0) behind later))
          | inr none ↦ absurd (let read = no_token b at bs sign not_blank none in cc)
        ]
      ]
    ])

-- ---- the line's tokens are read

blank_sign : (b : ℕ) → is_blank b ≡ true → eqb b 35 ≡ false
blank_sign b h = grind (arith, nat_tests)

over_blanks : (n : ℕ) (line : List ℕ) (at : ℕ) → at + n ≤ length line → list_all is_blank (take n (drop at line)) ≡ true → tokens_from 0 at (drop at line) ≡ tokens_from 0 (at + n) (drop (at + n) line)
over_blanks zero line at le h = let same : at ≡ at + 0 = omega arith in ap (λ (k : ℕ). tokens_from 0 k (drop k line)) same
over_blanks (suc n) line at le h =
    let cut : drop at line ≡ get_or line at 0 ∷ drop (at + 1) line = drop_more line at 0 (omega arith) in
    let blanks : (is_blank (get_or line at 0) ≡ true) × (list_all is_blank (take n (drop (at + 1) line)) ≡ true) =
    both (is_blank (get_or line at 0)) (list_all is_blank (take n (drop (at + 1) line))) (ap (λ (xs : List ℕ). list_all is_blank (take (suc n) xs)) (sym cut) ∙ h) in
    let same : at + 1 + n ≡ at + suc n = omega arith in
    ap (tokens_from 0 at) cut ∙ blank (get_or line at 0) at (drop (at + 1) line) (blank_sign (get_or line at 0) blanks.0) blanks.0 ∙ over_blanks n line (at + 1) (omega arith) blanks.1
    ∙ ap (λ (k : ℕ). tokens_from 0 k (drop k line)) same

no_token_left : (bytes : List ℕ) (at : ℕ) → has_no_token bytes ≡ true → tokens_from 0 at bytes ≡ Some []
no_token_left [] at h = nothing_left at
no_token_left (b ∷ bs) at h =
    elim (cases_Bool (eqb b 35)) [
      | inl sign ↦ comment b at bs sign
      | inr sign ↦ (let tests : (is_blank b ≡ true) × (has_no_token bs ≡ true) = both (is_blank b) (has_no_token bs) (rw sign at h) in
          blank b at bs sign tests.0 ∙ no_token_left bs (at + 1) tests.1)
    ]

-- a token that ends before the rest is read, and then the rest
pub reads_token : (t : Token) (rest : List ℕ) (at : ℕ) → IsToken t → ends_before t rest ≡ true
    → tokens_from 0 at (token_text t ++ rest) ≡ option_map (with_token at (t, length (token_text t))) (tokens_from 0 (at + length (token_text t)) rest)
reads_token t rest at is ends =
    let starts = token_starts t is in
    let text : List ℕ = token_text t in
    let n : ℕ = length text in
    let b : ℕ = starts.first in
    let whole : text ++ rest ≡ b ∷ (starts.others ++ rest) = ap (λ (xs : List ℕ). xs ++ rest) starts.whole in
    let front : front_token (b ∷ (starts.others ++ rest)) ≡ Some (t, n) = ap front_token (sym whole) ∙ front_is t rest is ends in
    let long : n ≡ suc (length starts.others) = ap length starts.whole in
    let within : n ≤ length (b ∷ (starts.others ++ rest)) = omega (arith, length-append starts.others rest) in
    let behind : drop n (b ∷ (starts.others ++ rest)) ≡ rest = ap (drop n) (sym whole) ∙ drop_at text rest n refl in
    ap (tokens_from 0 at) whole ∙ a_token b at (starts.others ++ rest) (t, n) starts.sign starts.blank front (omega arith) within ∙ ap (λ (xs : List ℕ). option_map (with_token at (t, n)) (tokens_from 0 (at + n) xs)) behind

all_read : (line : List ℕ) (ts : List SpannedToken) (at : ℕ) → at ≤ length line → AreTokensFrom line at ts → tokens_from 0 at (drop at line) ≡ Some ts
all_read line [] at le h = no_token_left (drop at line) at h
all_read line (t ∷ ts) at le h =
    let here : IsNextToken line at t = h.0 in
    let behind = here.behind in
    let some = here.some in
    let within = here.within in
    let n : ℕ = length (token_text t.token) in
    let size : length (slice_range line t.from t.to) ≡ t.to - t.from = length-take-le (t.to - t.from) (drop t.from line) (omega (arith, length-drop t.from line)) in
    let long : length (slice_range line t.from t.to) ≡ n = ap length here.text in
    let end : t.from + n ≡ t.to = omega arith in
    let cut : drop t.from line ≡ token_text t.token ++ drop t.to line = drop_split line t.from t.to (omega arith) ∙ ap (λ (xs : List ℕ). xs ++ drop t.to line) here.text in
    let from_there : at + (t.from - at) ≡ t.from = omega arith in
    let reached : tokens_from 0 at (drop at line) ≡ tokens_from 0 t.from (drop t.from line) =
    over_blanks (t.from - at) line at (omega arith) here.blanks ∙ ap (λ (k : ℕ). tokens_from 0 k (drop k line)) from_there in
    let later : tokens_from 0 (t.from + n) (drop t.to line) ≡ Some ts = ap (λ (k : ℕ). tokens_from 0 k (drop t.to line)) end ∙ all_read line ts t.to within h.1 in
    reached ∙ ap (tokens_from 0 t.from) cut ∙ reads_token t.token (drop t.to line) t.from here.token here.longest ∙ ap (option_map (with_token t.from (t.token, n))) later
    ∙ ap (λ (k : ℕ). Some (record { token = t.token; from = t.from; to = k } ∷ ts)) end

-- ---- the laws

pub read_are_tokens : (line : List ℕ) (ts : List SpannedToken) → spanned_tokens_of line ≡ Some ts → AreTokensOf line ts
unfolding spanned_tokens_of
read_are_tokens line ts h = only line line 0 0 ts refl (omega arith) h

pub tokens_are_read : (line : List ℕ) (ts : List SpannedToken) → AreTokensOf line ts → spanned_tokens_of line ≡ Some ts
unfolding spanned_tokens_of
tokens_are_read line ts h = all_read line ts 0 (omega arith) h

-- no token is empty, so there are no more tokens than bytes
few_from : (line : List ℕ) (ts : List SpannedToken) (at : ℕ) → at ≤ length line → AreTokensFrom line at ts → at + length ts ≤ length line
few_from line [] at le h = omega arith
few_from line (t ∷ ts) at le h =
    let next : IsNextToken line at t = h.0 in
    let behind = next.behind in
    let some = next.some in
    let within = next.within in
    let others = few_from line ts t.to within h.1 in
    omega arith

pub few_tokens : (line : List ℕ) (ts : List SpannedToken) → AreTokensOf line ts → length ts ≤ length line
few_tokens line ts h = let few = few_from line ts 0 (omega arith) h in omega arith

pub reading_is_exact : ReadingIsExact
reading_is_exact line ts = (read_are_tokens line ts, tokens_are_read line ts)

pub reading_is_unique : ReadingIsUnique
reading_is_unique line ts us h k = let first = tokens_are_read line ts h in let second = tokens_are_read line us k in cc

-- a line of which nothing is read has no tokens
pub nothing_read : (line : List ℕ) → spanned_tokens_of line ≡ None → ¬ HasTokens line
nothing_read line none has = let read = tokens_are_read line has.0 has.1 in cc
