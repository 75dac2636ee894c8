-- The token that bytes begin with.
use Rattle.std.proofs.Common.{◌≡◌, ℕ, suc, ◌+◌, ◌<◌, ◌≤◌, true, false, eqb, ltb, List, [], ◌∷◌, ◌++◌, length, get_or, take, drop, length-append, Some, refl, sym, ap, ◌∙◌, subst, inl, inr, arith}
use Rattle.std.specs.Prelude.{decimal, nat_eq, bytes_eq, ⊤}
use Rattle.std.specs.Option.{option_map, option_or}
use Rattle.std.specs.List.{prefix_len, list_all, starts_with}
use Rattle.std.proofs.lemmas.Bool.Decides.{nat_tests, Decides-eqb}
use Rattle.std.proofs.lemmas.Bool.{ne_eqb, not-true, lt-ltb, le-ltb, cases_lt}
use Rattle.std.proofs.lemmas.Option.{cond_some}
use Rattle.std.proofs.lemmas.List.{take_at, drop_all, drop_more}
use Rattle.std.proofs.lemmas.List.Sums.{prefix_len-le-length, prefix_len_stops}
use Rattle.std.proofs.lemmas.Slice.Eq.{bytes_eq-Decides, starts_is}
use Rattle.pyr_num.specs.Name.{is_part, is_name}
use Rattle.pyr_decimal.specs.Number.{number_of}
use Rattle.pyr_decimal.proofs.Choices.{both, first_or_second, mapped, found}
use Rattle.pyr_decimal.proofs.Numbers.{number_of_only}
use Rattle.pyr_lex.specs.declared.symbol.Symbol.{Symbol as SymbolKind}
use Rattle.pyr_lex.specs.declared.symbol.Symbol.TheVariants as signs
use Rattle.pyr_lex.specs.declared.token.Token.{Token}
use Rattle.pyr_lex.specs.declared.token.Token.TheVariants.{Name, Number, Word, Symbol}
use Rattle.pyr_lex.specs.Word.{word_text, words, word_of}
use Rattle.pyr_lex.specs.Symbol.{symbol_text, symbols, front_symbol}
use Rattle.pyr_lex.specs.Token.{IsToken, token_text}
use Rattle.pyr_lex.specs.Line.{is_blank, belongs, ends_before}
use Rattle.pyr_lex.specs.Reading.{name_token, run_token, front_token}
use Rattle.pyr_lex.proofs.Runs.{IsRun, name_run, number_run, word_run}

-- ---- names, numbers and words

-- the bytes do not go on with a run
abbrev StopsRun : List ℕ → Type 0
StopsRun [] = ⊤
StopsRun (b ∷ bs) = is_part b ≡ false

run_stops : (rest : List ℕ) → StopsRun rest → prefix_len is_part rest ≡ 0
run_stops [] h = refl
run_stops (b ∷ bs) h = rw h refl

run_len : (text rest : List ℕ) → list_all is_part text ≡ true → StopsRun rest → prefix_len is_part (text ++ rest) ≡ length text
run_len [] rest h stops = run_stops rest stops
run_len (b ∷ bs) rest h stops =
    let parts = both (is_part b) (list_all is_part bs) h in
    rw (parts.0, run_len bs rest parts.1 stops) (let e : 1 + length bs ≡ suc (length bs) = omega arith in e)

run_front : (t : Token) (rest : List ℕ) → IsRun t → StopsRun rest → front_token (token_text t ++ rest) ≡ Some (t, length (token_text t))
unfolding front_token
run_front t rest run stops =
    let some : ltb 0 (length (token_text t)) ≡ true = lt-ltb 0 (length (token_text t)) run.some in
    rw (run_len (token_text t) rest run.parts stops, some, take_at (token_text t) rest (length (token_text t)) refl, run.token) refl

-- a token to which letters, digits and `_` belong ends before the rest
stops : (t : Token) (rest : List ℕ) → ((b : ℕ) → belongs t b ≡ is_part b) → ends_before t rest ≡ true → StopsRun rest
stops t [] part ends = tt
stops t (b ∷ bs) part ends = sym (part b) ∙ not-true (belongs t b) ends

-- ---- symbols

less_alone : (b : ℕ) → ends_before (Symbol signs.Less) (b ∷ []) ≡ true → eqb 60 b ≡ false
less_alone b ends =
    ne_eqb 60 b (λ e. let two : ends_before (Symbol signs.Less) (60 ∷ []) ≡ true = subst (λ (k : ℕ). ends_before (Symbol signs.Less) (k ∷ []) ≡ true) (sym e) ends in absurd cc)

equal_alone : (b : ℕ) → ends_before (Symbol signs.Equal) (b ∷ []) ≡ true → eqb 61 b ≡ false
equal_alone b ends =
    ne_eqb 61 b (λ e. let two : ends_before (Symbol signs.Equal) (61 ∷ []) ≡ true = subst (λ (k : ℕ). ends_before (Symbol signs.Equal) (k ∷ []) ≡ true) (sym e) ends in absurd cc)

symbol_front : (s : SymbolKind) (rest : List ℕ) → ends_before (Symbol s) rest ≡ true → front_token (symbol_text s ++ rest) ≡ Some (Symbol s, length (symbol_text s))
unfolding front_token
symbol_front signs.Less [] ends = refl
symbol_front signs.Less (b ∷ bs) ends = rw (less_alone b ends) refl
symbol_front signs.Equal [] ends = refl
symbol_front signs.Equal (b ∷ bs) ends = rw (equal_alone b ends) refl
symbol_front s rest ends = refl

-- ---- from the token to what is read

-- a token that ends before the rest is read at the front
pub front_is : (t : Token) (rest : List ℕ) → IsToken t → ends_before t rest ≡ true → front_token (token_text t ++ rest) ≡ Some (t, length (token_text t))
front_is (Name text) rest is ends = run_front (Name text) rest (name_run text is) (stops (Name text) rest (λ b. refl) ends)
front_is (Number n) rest is ends = run_front (Number n) rest (number_run n is) (stops (Number n) rest (λ b. refl) ends)
front_is (Word w) rest is ends = run_front (Word w) rest (word_run w) (stops (Word w) rest (λ b. refl) ends)
front_is (Symbol s) rest is ends = symbol_front s rest ends

-- ---- from what is read to the token

-- The bytes begin with the token, which is as long as it can be there.
pub record IsFront (bytes : List ℕ) (t : Token) (n : ℕ) : Type 0 where
  pub token : IsToken t
  pub some : 0 < n
  pub within : n ≤ length bytes
  pub text : take n bytes ≡ token_text t
  pub ends : ends_before t (drop n bytes) ≡ true

-- the name, number or word of a text
record IsOfRun (run : List ℕ) (t : Token) : Type 0 where
  token : IsToken t
  text : run ≡ token_text t
  part : (b : ℕ) → belongs t b ≡ is_part b

run_only : (text : List ℕ) (t : Token) → run_token text ≡ Some t → IsOfRun text t
unfolding run_token
run_only text t h =
    elim (first_or_second (name_token text) (option_or (option_map Number (number_of text)) (option_map Word (word_of text))) t h) [
      | inl name ↦ (let is = cond_some (is_name text) (Name text) t name in subst (IsOfRun text) is.1 (record { token = is.0; text = refl; part = λ b. refl }))
      | inr other ↦ elim (first_or_second (option_map Number (number_of text)) (option_map Word (word_of text)) t other) [
        | inl number ↦ (let is = mapped Number (number_of text) t number in let decimal_is = number_of_only text is.0 is.1 in subst (IsOfRun text) is.2 (record { token = decimal_is.0; text = decimal_is.1; part = λ b. refl }))
        | inr word ↦ (let is = mapped Word (word_of text) t word in let same : word_text is.0 ≡ text = (bytes_eq-Decides (word_text is.0) text).0 (found (λ w. bytes_eq (word_text w) text) words is.0 is.1) in subst (IsOfRun text) is.2 (record { token = tt; text = sym same; part = λ b. refl }))
      ]
    ]

run_ends : (bytes : List ℕ) (t : Token) → ((b : ℕ) → belongs t b ≡ is_part b) → ends_before t (drop (prefix_len is_part bytes) bytes) ≡ true
run_ends bytes t part =
    let n : ℕ = prefix_len is_part bytes in
    elim (cases_lt n (length bytes)) [
      | inl more ↦ rw (drop_more bytes n 0 more, part (get_or bytes n 0), prefix_len_stops is_part bytes 0 more) refl
      | inr all ↦ rw (drop_all n bytes all) refl
    ]

symbol_some : (s : SymbolKind) → 0 < length (symbol_text s)
symbol_some signs.ShiftLeft = omega arith
symbol_some s = omega arith

less_first : (b : ℕ) (bs : List ℕ) → front_symbol (60 ∷ b ∷ bs) ≡ Some signs.Less → eqb 60 b ≡ false
less_first b bs h =
    ne_eqb 60 b (λ e. let less : front_symbol (60 ∷ 60 ∷ bs) ≡ Some signs.Less = subst (λ (k : ℕ). front_symbol (60 ∷ k ∷ bs) ≡ Some signs.Less) (sym e) h in absurd cc)

equal_first : (b : ℕ) (bs : List ℕ) → front_symbol (61 ∷ b ∷ bs) ≡ Some signs.Equal → eqb 61 b ≡ false
equal_first b bs h =
    ne_eqb 61 b (λ e. let equal : front_symbol (61 ∷ 61 ∷ bs) ≡ Some signs.Equal = subst (λ (k : ℕ). front_symbol (61 ∷ k ∷ bs) ≡ Some signs.Equal) (sym e) h in absurd cc)

symbol_ends : (s : SymbolKind) (rest : List ℕ) → front_symbol (symbol_text s ++ rest) ≡ Some s → ends_before (Symbol s) rest ≡ true
symbol_ends s [] h = refl
symbol_ends signs.Less (b ∷ bs) h = rw (less_first b bs h) refl
symbol_ends signs.Equal (b ∷ bs) h = rw (equal_first b bs h) refl
symbol_ends s (b ∷ bs) h = refl

symbol_only : (bytes : List ℕ) (s : SymbolKind) → front_symbol bytes ≡ Some s → IsFront bytes (Symbol s) (length (symbol_text s))
symbol_only bytes s h =
    let begins : starts_with nat_eq bytes (symbol_text s) ≡ true = found (λ k. starts_with nat_eq bytes (symbol_text k)) symbols s h in
    let rest : List ℕ = drop (length (symbol_text s)) bytes in
    let whole : bytes ≡ symbol_text s ++ rest = (starts_is Decides-eqb bytes (symbol_text s) (starts_with nat_eq bytes (symbol_text s)) refl).0 begins in
    record {
      token = tt;
      some = symbol_some s;
      within = (let long : length bytes ≡ length (symbol_text s ++ rest) = ap length whole in omega (arith, length-append (symbol_text s) rest));
      text = ap (take (length (symbol_text s))) whole ∙ take_at (symbol_text s) rest (length (symbol_text s)) refl;
      ends = symbol_ends s rest (ap front_symbol (sym whole) ∙ h);
    }

-- what is read at the front is a token there
pub front_only : (bytes : List ℕ) (t : Token × ℕ) → front_token bytes ≡ Some t → IsFront bytes t.0 t.1
unfolding front_token
front_only bytes t h =
    let n : ℕ = prefix_len is_part bytes in
    let F : Token × ℕ → Type 0 = λ u. IsFront bytes u.0 u.1 in
    elim (cases_lt 0 n) [
      | inl some ↦ (let is = mapped (λ (u : Token). (u, n)) (run_token (take n bytes)) t (let yes : ltb 0 n ≡ true = lt-ltb 0 n some in rw yes at h) in
          let run : IsOfRun (take n bytes) is.0 = run_only (take n bytes) is.0 is.1 in
          subst F is.2 (record { token = run.token; some = some; within = prefix_len-le-length is_part bytes; text = run.text; ends = run_ends bytes is.0 run.part }))
      | inr none ↦ (let is = mapped (λ (s : SymbolKind). (Symbol s, length (symbol_text s))) (front_symbol bytes) t (let no : ltb 0 n ≡ false = le-ltb 0 n none in rw no at h) in
          subst F is.2 (symbol_only bytes is.0 is.1))
    ]

-- where no run begins, the symbol at the front is read
pub symbol_is_read : (bytes text : List ℕ) (s : SymbolKind) → prefix_len is_part bytes ≤ 0 → Some s ≡ front_symbol bytes → text ≡ symbol_text s
    → Some (Symbol s, length text) ≡ front_token bytes
unfolding front_token
symbol_is_read bytes text s none front is =
    let no : ltb 0 (prefix_len is_part bytes) ≡ false = le-ltb 0 (prefix_len is_part bytes) none in
    rw (no, ← front, is) refl

-- A token's text begins with a byte that is neither blank nor `#`.
pub record Starts (text : List ℕ) : Type 0 where
  pub first : ℕ
  pub others : List ℕ
  pub whole : text ≡ first ∷ others
  pub sign : eqb first 35 ≡ false
  pub blank : is_blank first ≡ false

part_sign : (b : ℕ) → is_part b ≡ true → eqb b 35 ≡ false
part_sign b h = grind (arith, nat_tests)

part_blank : (b : ℕ) → is_part b ≡ true → is_blank b ≡ false
part_blank b h = grind (arith, nat_tests)

run_starts : (text : List ℕ) → list_all is_part text ≡ true → 0 < length text → Starts text
run_starts [] parts some = absurd (omega arith)
run_starts (b ∷ bs) parts some =
    let part : is_part b ≡ true = (both (is_part b) (list_all is_part bs) parts).0 in
    record { first = b; others = bs; whole = refl; sign = part_sign b part; blank = part_blank b part }

symbol_starts : (s : SymbolKind) → Starts (symbol_text s)
symbol_starts signs.ShiftLeft = record { first = 60; others = 60 ∷ []; whole = refl; sign = refl; blank = refl }
symbol_starts signs.ShiftRight = record { first = 62; others = 62 ∷ []; whole = refl; sign = refl; blank = refl }
symbol_starts signs.EqualEqual = record { first = 61; others = 61 ∷ []; whole = refl; sign = refl; blank = refl }
symbol_starts s = record { first = get_or (symbol_text s) 0 0; others = []; whole = refl; sign = refl; blank = refl }

pub token_starts : (t : Token) → IsToken t → Starts (token_text t)
token_starts (Name text) is = (let run = name_run text is in run_starts text run.parts run.some)
token_starts (Number n) is = (let run = number_run n is in run_starts (decimal n) run.parts run.some)
token_starts (Word w) is = (let run = word_run w in run_starts (word_text w) run.parts run.some)
token_starts (Symbol s) is = symbol_starts s
