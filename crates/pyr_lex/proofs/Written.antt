-- Tokens that are written out are read again.
use Rattle.std.proofs.Common.{◌≡◌, ℕ, ◌+◌, Bool, true, false, not, eqb, List, [], ◌∷◌, ◌++◌, length, Option, Some, None, refl, ap, ◌∙◌, inl, inr, arith}
use Rattle.std.specs.Option.{option_map}
use Rattle.std.specs.List.{list_all, AllByRecursion}
use Rattle.std.proofs.lemmas.Bool.{cases_Bool}
use Rattle.std.proofs.lemmas.Bool.Decides.{nat_tests}
use Rattle.std.proofs.lemmas.List.Folds.{list_all-append}
use Rattle.pyr_num.specs.Name.{is_part}
use Rattle.pyr_decimal.proofs.Choices.{both}
use Rattle.pyr_lex.specs.declared.symbol.Symbol.TheVariants as signs
use Rattle.pyr_lex.specs.declared.token.Token.{Token}
use Rattle.pyr_lex.specs.declared.token.Token.TheVariants.{Name, Number, Word, Symbol}
use Rattle.pyr_lex.specs.declared.spanned_token.SpannedToken.{SpannedToken}
use Rattle.pyr_lex.specs.Token.{IsToken, token_text, tokens_in}
use Rattle.pyr_lex.specs.Line.{belongs, ends_before}
use Rattle.pyr_lex.specs.Reading.{with_token, tokens_from, spanned_tokens_of, tokens_of}
use Rattle.pyr_lex.specs.Spacing.{gap, text_behind, line_text, is_tight_behind, is_tight_before, is_tight, never_tight, PartsTokens}
use Rattle.pyr_lex.specs.Laws.{WrittenIsRead}
use Rattle.pyr_lex.proofs.Steps.{blank, nothing_left}
use Rattle.pyr_lex.proofs.Runs.{name_run, number_run, word_run}
use Rattle.pyr_lex.proofs.Fronts.{Starts, token_starts}
use Rattle.pyr_lex.proofs.Lines.{reads_token}

-- ---- what ends where

-- a byte that belongs to no token before it
apart : (b : ℕ) → is_part b ≡ false → eqb 60 b ≡ false → eqb 61 b ≡ false → (t : Token) → belongs t b ≡ false
apart b part less equal (Name bytes) = part
apart b part less equal (Number n) = part
apart b part less equal (Word w) = part
apart b part less equal (Symbol signs.Less) = rw less refl
apart b part less equal (Symbol signs.Equal) = rw equal refl
apart b part less equal (Symbol s) = refl

ends_at : (b : ℕ) (bs : List ℕ) → is_part b ≡ false → eqb 60 b ≡ false → eqb 61 b ≡ false → (t : Token) → ends_before t (b ∷ bs) ≡ true
ends_at b bs part less equal t = rw (apart b part less equal t) refl

ends_before_more : (t : Token) (text rest : List ℕ) → Starts text → ends_before t text ≡ true → ends_before t (text ++ rest) ≡ true
ends_before_more t [] rest starts ends = absurd (let whole = starts.whole in cc)
ends_before_more t (b ∷ bs) rest starts ends = ends

open_ends : (t : Token) (text : List ℕ) → is_tight_behind t ≡ true → ends_before t text ≡ true
open_ends t [] h = refl
open_ends (Symbol signs.ParenOpen) (b ∷ bs) h = refl
open_ends (Symbol signs.BracketOpen) (b ∷ bs) h = refl
open_ends t (b ∷ bs) h = absurd cc

bracket_ends : (t u : Token) → is_tight_before u ≡ true → ends_before t (token_text u) ≡ true
bracket_ends t (Symbol signs.ParenClose) h = ends_at 41 [] refl refl refl t
bracket_ends t (Symbol signs.BracketOpen) h = ends_at 91 [] refl refl refl t
bracket_ends t (Symbol signs.BracketClose) h = ends_at 93 [] refl refl refl t
bracket_ends t u h = absurd cc

canonical_parts : PartsTokens is_tight
canonical_parts t u is also tight =
    elim (cases_Bool (is_tight_behind t)) [ inl opens ↦ open_ends t (token_text u) opens | inr closed ↦ bracket_ends t u (rw closed at tight) ]

-- ---- reading

first_of_all : (at : ℕ) (t : Token) (n : ℕ) (read : Option (List SpannedToken)) (ts : List Token) → option_map tokens_in read ≡ Some ts → option_map tokens_in (option_map (with_token at (t, n)) read) ≡ Some (t ∷ ts)
first_of_all at t n (Some us) ts h = let same : tokens_in us ≡ ts = cc in ap (λ (vs : List Token). Some (t ∷ vs)) same
first_of_all at t n None ts h = absurd cc

written : (tight : Token → Token → Bool) → PartsTokens tight → (ts : List Token) (t : Token) (at : ℕ) → IsToken t → AllByRecursion IsToken ts
    → option_map tokens_in (tokens_from 0 at (token_text t ++ text_behind tight t ts)) ≡ Some (t ∷ ts)
written tight parts [] t at is all =
    let n : ℕ = length (token_text t) in
    ap (option_map tokens_in) (reads_token t [] at is refl) ∙ first_of_all at t n (tokens_from 0 (at + n) []) [] (ap (option_map tokens_in) (nothing_left (at + n)))
written tight parts (u ∷ us) t at is all =
    let n : ℕ = length (token_text t) in
    let rest : List ℕ = token_text u ++ text_behind tight u us in
    elim (cases_Bool (tight t u)) [
      | inl close ↦ (let behind : text_behind tight t (u ∷ us) ≡ rest = rw close refl in
          let ends : ends_before t rest ≡ true = ends_before_more t (token_text u) (text_behind tight u us) (token_starts u all.0) (parts t u is all.0 close) in
          ap (λ (xs : List ℕ). option_map tokens_in (tokens_from 0 at (token_text t ++ xs))) behind ∙ ap (option_map tokens_in) (reads_token t rest at is ends)
          ∙ first_of_all at t n (tokens_from 0 (at + n) rest) (u ∷ us) (written tight parts us u (at + n) all.0 all.1))
      | inr spaced ↦ (let behind : text_behind tight t (u ∷ us) ≡ 32 ∷ rest = rw spaced refl in
          let ends : ends_before t (32 ∷ rest) ≡ true = ends_at 32 rest refl refl refl t in
          ap (λ (xs : List ℕ). option_map tokens_in (tokens_from 0 at (token_text t ++ xs))) behind ∙ ap (option_map tokens_in) (reads_token t (32 ∷ rest) at is ends)
          ∙ first_of_all at t n (tokens_from 0 (at + n) (32 ∷ rest)) (u ∷ us) (ap (option_map tokens_in) (blank 32 (at + n) rest refl refl) ∙ written tight parts us u (at + n + 1) all.0 all.1))
    ]

written_line : (tight : Token → Token → Bool) → PartsTokens tight → (ts : List Token) → AllByRecursion IsToken ts → tokens_of (line_text tight ts) ≡ Some ts
unfolding spanned_tokens_of
written_line tight parts [] all = ap (option_map tokens_in) (nothing_left 0)
written_line tight parts (t ∷ ts) all = written tight parts ts t 0 all.0 all.1

-- ---- one line

abbrev is_no_feed : ℕ → Bool
is_no_feed b = not (eqb b 10)

part_no_feed : (b : ℕ) → is_part b ≡ true → is_no_feed b ≡ true
part_no_feed b h = grind (arith, nat_tests)

parts_no_feed : (text : List ℕ) → list_all is_part text ≡ true → list_all is_no_feed text ≡ true
parts_no_feed [] h = refl
parts_no_feed (b ∷ bs) h =
    let parts = both (is_part b) (list_all is_part bs) h in rw (part_no_feed b parts.0, parts_no_feed bs parts.1) refl

text_no_feed : (t : Token) → IsToken t → list_all is_no_feed (token_text t) ≡ true
text_no_feed (Name text) is = parts_no_feed text (name_run text is).parts
text_no_feed (Number n) is = parts_no_feed (token_text (Number n)) (number_run n is).parts
text_no_feed (Word w) is = parts_no_feed (token_text (Word w)) (word_run w).parts
text_no_feed (Symbol signs.ShiftLeft) is = refl
text_no_feed (Symbol s) is = refl

gap_no_feed : (tight : Bool) → list_all is_no_feed (gap tight) ≡ true
gap_no_feed true = refl
gap_no_feed false = refl

behind_no_feed : (tight : Token → Token → Bool) (ts : List Token) (t : Token) → AllByRecursion IsToken ts → list_all is_no_feed (text_behind tight t ts) ≡ true
behind_no_feed tight [] t all = refl
behind_no_feed tight (u ∷ us) t all =
    rw (list_all-append, list_all-append, gap_no_feed (tight t u), text_no_feed u all.0, behind_no_feed tight us u all.1) refl

line_no_feed : (tight : Token → Token → Bool) (ts : List Token) → AllByRecursion IsToken ts → list_all is_no_feed (line_text tight ts) ≡ true
line_no_feed tight [] all = refl
line_no_feed tight (t ∷ ts) all =
    rw (list_all-append, text_no_feed t all.0, behind_no_feed tight ts t all.1) refl

pub written_is_read : WrittenIsRead
written_is_read = record {
  parted = written_line never_tight (λ t u is also tight. absurd cc);
  canonical = written_line is_tight canonical_parts;
  spaced = written_line;
  one_line = line_no_feed;
}
