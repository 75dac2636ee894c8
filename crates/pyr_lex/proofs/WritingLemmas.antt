-- Tokens, written one after another.
use Rattle.std.proofs.Common.{◌≡◌, ℕ, ◌+◌, ◌<◌, ◌≤◌, List, [], ◌∷◌, ◌++◌, length, get_or, drop, append_assoc, append-nil, Option, Some, None, refl, sym, ap, ◌∙◌, subst}
use Rattle.std.proofs.lemmas.List.{drop_all, drop_more}
use Rattle.pyr_lex.specs.declared.token.Token.{Token}
use Rattle.pyr_lex.specs.Token.{IsToken, AreTokens, token_text}
use Rattle.pyr_lex.specs.Spacing.{is_tight, canonical_line, gap_before, line_text, text_behind}

-- the text of the tokens that are left, behind the last one
abbrev pub rest_text : Option Token → List Token → List ℕ
rest_text None ts = line_text is_tight ts
rest_text (Some t) ts = text_behind is_tight t ts

rest_text_more : (last : Option Token) (t : Token) (ts : List Token) → rest_text last (t ∷ ts) ≡ gap_before last t ++ token_text t ++ rest_text (Some t) ts
rest_text_more None t ts = refl
rest_text_more (Some u) t ts = refl

rest_text_none : (last : Option Token) → rest_text last [] ≡ []
rest_text_none None = refl
rest_text_none (Some u) = refl

-- one more token is written, behind its gap
pub token_written : (out gapped written whole : List ℕ) (last : Option Token) (ts : List Token) (i : ℕ) (t : Token) → i < length ts → t ≡ get_or ts i t
    → out ++ rest_text last (drop i ts) ≡ whole → gapped ≡ out ++ gap_before last t → written ≡ gapped ++ token_text t
    → written ++ rest_text (Some t) (drop (i + 1) ts) ≡ whole
token_written out gapped written whole last ts i t inside is so_far gap text =
    let next : drop i ts ≡ t ∷ drop (i + 1) ts = drop_more ts i t inside ∙ ap (λ u. u ∷ drop (i + 1) ts) (sym is) in
    let rest : rest_text last (drop i ts) ≡ gap_before last t ++ token_text t ++ rest_text (Some t) (drop (i + 1) ts) = ap (rest_text last) next ∙ rest_text_more last t (drop (i + 1) ts) in
    let same = simp append_assoc at (rw rest at so_far) in
    rw (text, gap) (simp append_assoc same)

-- it is a token if the ones behind it are tokens
pub tokens_written : (ts : List Token) (i : ℕ) (t : Token) → i < length ts → t ≡ get_or ts i t → IsToken t
    → (AreTokens (drop i ts) → AreTokens ts) → AreTokens (drop (i + 1) ts) → AreTokens ts
tokens_written ts i t inside is token so_far later =
    let next : drop i ts ≡ t ∷ drop (i + 1) ts = drop_more ts i t inside ∙ ap (λ u. u ∷ drop (i + 1) ts) (sym is) in
    so_far (subst AreTokens (sym next) (token, later))

-- all are written, and the line feed behind them
pub line_written : (out written start : List ℕ) (last : Option Token) (ts : List Token) (i : ℕ) → length ts ≤ i → out ++ rest_text last (drop i ts) ≡ start ++ canonical_line ts
    → written ≡ out ++ (10 ∷ []) → written ≡ start ++ (canonical_line ts ++ (10 ∷ []))
line_written out written start last ts i past so_far feed =
    let none : rest_text last (drop i ts) ≡ [] = ap (rest_text last) (drop_all i ts past) ∙ rest_text_none last in
    let whole : out ≡ start ++ canonical_line ts = simp append-nil at (rw none at so_far) in
    rw (feed, whole) (append_assoc start (canonical_line ts) (10 ∷ []))

-- then all are tokens
pub all_tokens : (ts : List Token) (i : ℕ) → length ts ≤ i → (AreTokens (drop i ts) → AreTokens ts) → AreTokens ts
all_tokens ts i past so_far = so_far (subst AreTokens (sym (drop_all i ts past)) tt)
