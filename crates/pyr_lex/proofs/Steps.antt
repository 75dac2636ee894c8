-- The turns of the lexer's loop.
use Rattle.std.proofs.Common.{◌≡◌, ℕ, zero, suc, ◌+◌, ◌-◌, ◌<◌, ◌≤◌, true, false, eqb, List, [], ◌∷◌, ◌++◌, length, get_or, drop, length-drop, Option, Some, None, refl, sym, ap, subst, ◌∙◌, append_assoc, arith, drop-drop, add-zero}
use Rattle.std.specs.Option.{option_map}
use Rattle.std.proofs.lemmas.List.{append-nil, at_drop_all, drop_more}
use Rattle.pyr_lex.specs.declared.token.Token.{Token}
use Rattle.pyr_lex.specs.declared.spanned_token.SpannedToken.{SpannedToken}
use Rattle.pyr_lex.specs.Line.{is_blank}
use Rattle.pyr_lex.specs.Reading.{front_token, with_token, tokens_from, spanned_tokens_of}

-- what was read before, and what is still read
abbrev pub with_front : List SpannedToken → Option (List SpannedToken) → Option (List SpannedToken)
with_front front read = option_map (λ ts. front ++ ts) read

-- the bytes of the last token are passed over
pub passed_over : (bytes : List ℕ) (taken at : ℕ) → taken ≤ length bytes → tokens_from taken at bytes ≡ tokens_from 0 (at + taken) (drop taken bytes)
unfolding tokens_from
passed_over [] zero at le = refl
passed_over [] (suc taken) at le = absurd (omega arith)
passed_over (b ∷ bs) zero at le = ap (λ (n : ℕ). tokens_from 0 n (b ∷ bs)) (sym (add-zero at))
passed_over (b ∷ bs) (suc taken) at le =
    passed_over bs taken (at + 1) (omega arith) ∙ ap (λ (n : ℕ). tokens_from 0 n (drop taken bs)) (let e : at + 1 + taken ≡ at + suc taken = omega arith in e)

pub nothing_left : (at : ℕ) → tokens_from 0 at [] ≡ Some []
unfolding tokens_from
nothing_left at = refl

pub comment : (b at : ℕ) (bs : List ℕ) → eqb b 35 ≡ true → tokens_from 0 at (b ∷ bs) ≡ Some []
unfolding tokens_from
comment b at bs sign = rw sign refl

pub blank : (b at : ℕ) (bs : List ℕ) → eqb b 35 ≡ false → is_blank b ≡ true → tokens_from 0 at (b ∷ bs) ≡ tokens_from 0 (at + 1) bs
unfolding tokens_from
blank b at bs sign h = rw (sign, h) refl

pub no_token : (b at : ℕ) (bs : List ℕ) → eqb b 35 ≡ false → is_blank b ≡ false → front_token (b ∷ bs) ≡ None → tokens_from 0 at (b ∷ bs) ≡ None
unfolding tokens_from
no_token b at bs sign h t = rw (sign, h, t) refl

pub first_token : (b at : ℕ) (bs : List ℕ) (t : Token × ℕ) → eqb b 35 ≡ false → is_blank b ≡ false → front_token (b ∷ bs) ≡ Some t
    → tokens_from 0 at (b ∷ bs) ≡ option_map (with_token at t) (tokens_from (t.1 - 1) (at + 1) bs)
unfolding tokens_from
first_token b at bs t sign h front = rw (sign, h, front) refl

pub a_token : (b at : ℕ) (bs : List ℕ) (t : Token × ℕ) → eqb b 35 ≡ false → is_blank b ≡ false → front_token (b ∷ bs) ≡ Some t → 0 < t.1 → t.1 ≤ length (b ∷ bs)
    → tokens_from 0 at (b ∷ bs) ≡ option_map (with_token at t) (tokens_from 0 (at + t.1) (drop t.1 (b ∷ bs)))
a_token b at bs t sign h front pos le =
    let rest : tokens_from (t.1 - 1) (at + 1) bs ≡ tokens_from 0 (at + t.1) (drop t.1 (b ∷ bs)) =
    passed_over bs (t.1 - 1) (at + 1) (omega arith) ∙ (let n : at + 1 + (t.1 - 1) ≡ at + t.1 = omega arith in let m : t.1 ≡ suc (t.1 - 1) = omega arith in rw n (ap (λ (k : ℕ). tokens_from 0 (at + t.1) (drop k (b ∷ bs))) (sym m))) in
    first_token b at bs t sign h front ∙ ap (option_map (with_token at t)) rest

-- What the loop keeps: the tokens so far and those of the rest are the line's.
pub record HasRead (line : List ℕ) (front : List SpannedToken) (at : ℕ) : Type 0 where
  pub within : at ≤ length line
  pub read : with_front front (tokens_from 0 at (drop at line)) ≡ spanned_tokens_of line

pub starts : (line : List ℕ) → HasRead line [] 0
unfolding spanned_tokens_of
starts line = record {
  within = omega arith;
  read = elim (tokens_from 0 0 line) as (λ r. with_front [] r ≡ r) [ Some ts ↦ refl | None ↦ refl ];
}

pub at_blank : (line : List ℕ) (front : List SpannedToken) (at : ℕ) → at < length line → eqb (get_or line at 0) 35 ≡ false → is_blank (get_or line at 0) ≡ true
    → HasRead line front at → HasRead line front (at + 1)
at_blank line front at h sign b so_far = record {
  within = omega arith;
  read =
      ap (with_front front) (sym (blank (get_or line at 0) at (drop (at + 1) line) sign b) ∙ ap (tokens_from 0 at) (sym (drop_more line at 0 h))) ∙ so_far.read;
}

-- the end of the line, or a comment
pub at_end : (line : List ℕ) (front : List SpannedToken) (at : ℕ) → length line ≤ at → HasRead line front at → spanned_tokens_of line ≡ Some front
at_end line front at h so_far =
    let ended : with_front front (tokens_from 0 at (drop at line)) ≡ Some front = at_drop_all (λ (bs : List ℕ). with_front front (tokens_from 0 at bs)) line at h ∙ ap (with_front front) (nothing_left at) ∙ ap (λ (ts : List SpannedToken). Some ts) (append-nil front) in
    sym so_far.read ∙ ended

pub at_comment : (line : List ℕ) (front : List SpannedToken) (at : ℕ) → at < length line → eqb (get_or line at 0) 35 ≡ true → HasRead line front at → spanned_tokens_of line ≡ Some front
at_comment line front at h sign so_far =
    let ended : with_front front (tokens_from 0 at (drop at line)) ≡ Some front = rw (drop_more line at 0 h, comment (get_or line at 0) at (drop (at + 1) line) sign) (ap (λ (ts : List SpannedToken). Some ts) (append-nil front)) in
    sym so_far.read ∙ ended

pub at_no_token : (line : List ℕ) (front : List SpannedToken) (at : ℕ) → at < length line → eqb (get_or line at 0) 35 ≡ false → is_blank (get_or line at 0) ≡ false
    → front_token (drop at line) ≡ None → HasRead line front at → spanned_tokens_of line ≡ None
at_no_token line front at h sign b t so_far =
    let here : front_token (get_or line at 0 ∷ drop (at + 1) line) ≡ None = ap front_token (sym (drop_more line at 0 h)) ∙ t in
    let ended : with_front front (tokens_from 0 at (drop at line)) ≡ None = rw (drop_more line at 0 h, no_token (get_or line at 0) at (drop (at + 1) line) sign b here) refl in
    sym so_far.read ∙ ended

regroup : (front : List SpannedToken) (at : ℕ) (t : Token × ℕ) (read : Option (List SpannedToken)) → with_front front (option_map (with_token at t) read) ≡ with_front (front ++ with_token at t []) read
regroup front at t (Some ts) = ap (λ (us : List SpannedToken). Some us) (simp append_assoc)
regroup front at t None = refl

pub at_token : (line : List ℕ) (front : List SpannedToken) (at : ℕ) (t : Token × ℕ) → at < length line → eqb (get_or line at 0) 35 ≡ false → is_blank (get_or line at 0) ≡ false
    → front_token (drop at line) ≡ Some t → 0 < t.1 → t.1 ≤ length (drop at line) → HasRead line front at → HasRead line (front ++ with_token at t []) (at + t.1)
at_token line front at t h sign b found pos le so_far =
    let cut = drop_more line at 0 h in
    let here : front_token (get_or line at 0 ∷ drop (at + 1) line) ≡ Some t = ap front_token (sym cut) ∙ found in
    let within : t.1 ≤ length (get_or line at 0 ∷ drop (at + 1) line) = subst (λ (bs : List ℕ). t.1 ≤ length bs) cut le in
    let step = a_token (get_or line at 0) at (drop (at + 1) line) t sign b here pos within in
    let rest : drop t.1 (get_or line at 0 ∷ drop (at + 1) line) ≡ drop (at + t.1) line = ap (drop t.1) (sym cut) ∙ drop-drop t.1 at line in
    let one : tokens_from 0 at (drop at line) ≡ option_map (with_token at t) (tokens_from 0 (at + t.1) (drop (at + t.1) line)) = ap (tokens_from 0 at) cut ∙ step ∙ rw rest refl in
    record {
      within = omega (arith, length-drop at line);
      read = sym (regroup front at t (tokens_from 0 (at + t.1) (drop (at + t.1) line))) ∙ ap (with_front front) (sym one) ∙ so_far.read;
    }
