-- Names, numbers and words are read from their texts.
use Rattle.std.proofs.Common.{◌≡◌, ℕ, ◌<◌, ◌≤◌, ◌^◌, Bool, true, ◌&&◌, not, ltb, List, [], ◌∷◌, length, get_or, Some, None, refl, arith}
use Rattle.std.specs.Prelude.{decimal}
use Rattle.std.specs.List.{list_all}
use Rattle.std.specs.Str.Parse.{AllDigits}
use Rattle.std.proofs.lemmas.Bool.Decides.{nat_tests}
use Rattle.std.proofs.lemmas.Fmt.{decimal_is_IsNumeral, decimal_nonempty}
use Rattle.std.proofs.lemmas.Str.Parse.{digit_from_value}
use Rattle.pyr_num.specs.Name.{is_start, is_part, is_name, is_reserved}
use Rattle.pyr_decimal.proofs.Choices.{both, not_chosen}
use Rattle.pyr_decimal.proofs.Numbers.{number_of-decimal, decimal_first, no_number_above}
use Rattle.pyr_lex.specs.declared.word.Word.{Word as WordKind}
use Rattle.pyr_lex.specs.declared.word.Word.TheVariants as kinds
use Rattle.pyr_lex.specs.declared.token.Token.{Token}
use Rattle.pyr_lex.specs.declared.token.Token.TheVariants.{Name, Number, Word}
use Rattle.pyr_lex.specs.Word.{word_text, word_of}
use Rattle.pyr_lex.specs.Token.{token_text}
use Rattle.pyr_lex.specs.Reading.{name_token, run_token}

-- the token is read from its text, which is of letters, digits and `_` alone
pub record IsRun (t : Token) : Type 0 where
  pub token : run_token (token_text t) ≡ Some t
  pub parts : list_all is_part (token_text t) ≡ true
  pub some : 0 < length (token_text t)

record NameParts (text : List ℕ) : Type 0 where
  some : ltb 0 (length text) ≡ true
  begins : is_start (get_or text 0 0) ≡ true
  parts : list_all is_part text ≡ true

name_tests : (text : List ℕ) (few : Bool) → (ltb 0 (length text) && few && is_start (get_or text 0 0) && list_all is_part text && not (is_reserved text)) ≡ true → NameParts text
name_tests text few h =
    let a = both (ltb 0 (length text) && few && is_start (get_or text 0 0) && list_all is_part text) (not (is_reserved text)) h in
    let b = both (ltb 0 (length text) && few && is_start (get_or text 0 0)) (list_all is_part text) a.0 in
    let c = both (ltb 0 (length text) && few) (is_start (get_or text 0 0)) b.0 in
    let d = both (ltb 0 (length text)) few c.0 in
    record { some = d.0; begins = c.1; parts = b.1 }

name_parts : (text : List ℕ) → is_name text ≡ true → NameParts text
name_parts text h = name_tests text _ h

pub name_run : (text : List ℕ) → is_name text ≡ true → IsRun (Name text)
unfolding run_token
name_run text h =
    let parts = name_parts text h in
    let some = parts.some in
    record { token = rw h refl; parts = parts.parts; some = grind (arith, nat_tests) }

start_above : (b : ℕ) → is_start b ≡ true → 57 < b
start_above b h = grind (arith, nat_tests)

no_name : (text : List ℕ) → get_or text 0 0 ≤ 57 → name_token text ≡ None
no_name text low =
    not_chosen (is_name text) (Name text) (λ h. let above = start_above (get_or text 0 0) (name_parts text h).begins in omega arith)

digit_part : (b : ℕ) → 48 ≤ b → b ≤ 57 → is_part b ≡ true
digit_part b low high = grind (arith, nat_tests)

digits_parts : (ds : List ℕ) → AllDigits 10 ds → list_all is_part ds ≡ true
digits_parts [] h = refl
digits_parts (d ∷ ds) h =
    let range = digit_from_value d h.0 in
    rw (digit_part d range.0 range.1, digits_parts ds h.1) refl

pub number_run : (n : ℕ) → n < 2 ^ 64 → IsRun (Number n)
unfolding run_token
number_run n fits = record {
  token = rw (no_name (decimal n) (decimal_first n fits), number_of-decimal n fits) refl;
  parts = digits_parts (decimal n) (decimal_is_IsNumeral n fits).0.1;
  some = decimal_nonempty n fits;
}

a_word : (w : WordKind) → name_token (word_text w) ≡ None → 57 < get_or (word_text w) 0 0 → word_of (word_text w) ≡ Some w → run_token (word_text w) ≡ Some (Word w)
unfolding run_token
a_word w nameless above is = rw (nameless, no_number_above (word_text w) above, is) refl

pub word_run : (w : WordKind) → IsRun (Word w)
word_run kinds.Data = record { token = a_word kinds.Data refl (omega arith) refl; parts = refl; some = omega arith }
word_run w = record { token = a_word w refl (omega arith) refl; parts = refl; some = omega arith }
