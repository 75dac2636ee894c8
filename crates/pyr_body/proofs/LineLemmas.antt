-- A line's tokens are read as that line, and are its only ones.
use Rattle.std.specs.Prelude.{◌≢◌, ◌⊎◌}
use Rattle.std.proofs.Common.{◌≡◌, ℕ, suc, ◌<◌, ◌≤◌, ◌+◌, List, [], ◌∷◌, ◌++◌, Some, None, refl, sym, ap, ◌∙◌, arith, Option, inl, inr}
use Rattle.std.proofs.Common.{length, length-append}
use Rattle.std.proofs.lemmas.List.{length-map}
use Rattle.pyr_lex.specs.declared.spanned_token.SpannedToken.{SpannedToken}
use Rattle.pyr_lex.specs.Token.{tokens_in}
use Rattle.pyr_body.specs.declared.written_line.WrittenLine.{WrittenLine as WrittenLineValue}
use Rattle.pyr_body.specs.WrittenSeen.{written_line_of}
use Rattle.std.proofs.lemmas.List.{append-nil}
use Rattle.pyr_num.specs.declared.limits.TheConstants.Limits.{DEPTH}
use Rattle.pyr_num.specs.declared.name.Name.{Name}
use Rattle.pyr_lex.specs.declared.token.Token.{Token}
use Rattle.pyr_lex.specs.declared.token.Token.TheVariants as tokens
use Rattle.pyr_lex.specs.declared.word.Word.TheVariants as words
use Rattle.pyr_lex.specs.declared.symbol.Symbol.TheVariants as symbols
use Rattle.pyr_lex.specs.Depth.{depth_of}
use Rattle.pyr_body.specs.Written.{WrittenExpr, Num, Local, Frame, Get, Bin, Sel, written_brackets, written_nodes}
use Rattle.pyr_body.specs.Operator.{operator_token}
use Rattle.pyr_body.specs.Spelling.{expr_tokens, paren_close, bracket_open, bracket_close, question, colon, EndsBefore}
use Rattle.pyr_body.specs.Reading.{◌>>=◌, Found, until_bracket, expr_at}
use Rattle.pyr_body.specs.Written.{WrittenLine, Set, Put, For, Done, written_line_brackets, written_line_nodes}
use Rattle.pyr_body.specs.Spelling.{equal, line_tokens}
use Rattle.pyr_body.specs.Reading.{name_at, number_at, after_equal, after_open, ended, last_expr, set_at, put_at, for_at, line_at}
use Rattle.pyr_body.proofs.DepthLemmas.{line_deep}
use Rattle.pyr_body.specs.Laws.{LineIsUnique, LineIsDecided}
use Rattle.pyr_body.proofs.Readable.{bind_some, ends_before, bracket_again, until_bracket_sound, expr_again, expr_sound}

ends_nothing : (e : WrittenExpr) → EndsBefore e []
ends_nothing (Num n) = tt
ends_nothing (Local name) = tt
ends_nothing Frame = tt
ends_nothing (Get name index) = tt
ends_nothing (Bin op a b) = tt
ends_nothing (Sel c a b) = tt

last_again : (n : ℕ) (e : WrittenExpr) → written_brackets e < n → last_expr n (expr_tokens e) ≡ Some e
last_again n e l =
    let is : expr_at n (expr_tokens e) ≡ Some (e, []) = ap (expr_at n) (sym (append-nil (expr_tokens e))) ∙ expr_again e n [] l (ends_nothing e) in
    ap (λ r. r >>= λ (x : Found). ended x.1 x.0) is

pub line_again : (l : WrittenLine) (n : ℕ) → written_line_brackets l < n → line_at n (line_tokens l) ≡ Some l
line_again (Set name e) n h = ap (λ r. r >>= λ (x : WrittenExpr). Some (Set name x)) (last_again n e h)
line_again (Put name index e) n h =
    let inner : expr_at n (expr_tokens index ++ (bracket_close ∷ (equal ∷ expr_tokens e))) ≡ Some (index, bracket_close ∷ (equal ∷ expr_tokens e)) =
    expr_again index n _ (omega (arith, h)) (ends_before index bracket_close _ (λ e. cc)) in
    let until = bracket_again (expr_at n) _ (equal ∷ expr_tokens e) index inner in
    ap (λ r. r >>= λ (i : Found). after_equal i.1 >>= λ (vs : List Token). last_expr n vs >>= λ (x : WrittenExpr). Some (Put name i.0 x)) until
    ∙ ap (λ r. r >>= λ (x : WrittenExpr). Some (Put name index x)) (last_again n e (omega (arith, h)))
line_again (For name count) n h = refl
line_again Done n h = refl

some_name : (x y : Name × List Token) → Some x ≡ Some y → x ≡ y
some_name x y h = cc

some_number : (x y : ℕ × List Token) → Some x ≡ Some y → x ≡ y
some_number x y h = cc

name_sound : (ts : List Token) (x : Name × List Token) → name_at ts ≡ Some x → ts ≡ tokens.Name x.0 ∷ x.1
name_sound (tokens.Name name ∷ ts) x h = ap (λ (y : Name × List Token). tokens.Name y.0 ∷ y.1) (some_name (name, ts) x h)
name_sound ts x h = absurd (let k : None ≡ Some x = h in cc)

number_sound : (ts : List Token) (x : ℕ × List Token) → number_at ts ≡ Some x → ts ≡ tokens.Number x.0 ∷ x.1
number_sound (tokens.Number n ∷ ts) x h = ap (λ (y : ℕ × List Token). tokens.Number y.0 ∷ y.1) (some_number (n, ts) x h)
number_sound ts x h = absurd (let k : None ≡ Some x = h in cc)

equal_sound : (ts rest : List Token) → after_equal ts ≡ Some rest → ts ≡ equal ∷ rest
equal_sound (tokens.Symbol symbols.Equal ∷ ts) rest h = let k : Some ts ≡ Some rest = h in cc
equal_sound ts rest h = absurd (let k : None ≡ Some rest = h in cc)

open_sound : (ts rest : List Token) → after_open ts ≡ Some rest → ts ≡ bracket_open ∷ rest
open_sound (tokens.Symbol symbols.BracketOpen ∷ ts) rest h = let k : Some ts ≡ Some rest = h in cc
open_sound ts rest h = absurd (let k : None ≡ Some rest = h in cc)

ended_sound : {A : Type 0} (ts : List Token) (a b : A) → ended ts a ≡ Some b → (ts ≡ []) × (a ≡ b)
ended_sound [] a b h = (refl, cc)
ended_sound (t ∷ ts) a b h = absurd (let k : None ≡ Some b = h in cc)

module _ (n : ℕ) where
  last_sound : (ts : List Token) (e : WrittenExpr) → last_expr n ts ≡ Some e → ts ≡ expr_tokens e
  last_sound ts e h =
      let x = bind_some (expr_at n ts) (λ (y : Found). ended y.1 y.0) e h in
      let s = expr_sound n ts x.0 x.1 in
      let d = ended_sound x.0.1 x.0.0 e x.2 in
      s.text ∙ ap (λ l. expr_tokens x.0.0 ++ l) d.0 ∙ append-nil (expr_tokens x.0.0) ∙ ap expr_tokens d.1

  set_sound : (ts : List Token) (l : WrittenLine) → set_at n ts ≡ Some l → tokens.Word words.Set ∷ ts ≡ line_tokens l
  set_sound ts l h =
      let x = bind_some (name_at ts) (λ (x : Name × List Token). after_equal x.1 >>= λ (us : List Token). last_expr n us >>= λ (e : WrittenExpr). Some (Set x.0 e)) l h in
      let u = bind_some (after_equal x.0.1) (λ (us : List Token). last_expr n us >>= λ (e : WrittenExpr). Some (Set x.0.0 e)) l x.2 in
      let e = bind_some (last_expr n u.0) (λ (e : WrittenExpr). Some (Set x.0.0 e)) l u.2 in
      let is : Set x.0.0 e.0 ≡ l = let k : Some (Set x.0.0 e.0) ≡ Some l = e.2 in cc in
      ap (λ r. tokens.Word words.Set ∷ r) (name_sound ts x.0 x.1 ∙ ap (λ r. tokens.Name x.0.0 ∷ r) (equal_sound x.0.1 u.0 u.1 ∙ ap (λ r. equal ∷ r) (last_sound u.0 e.0 e.1))) ∙ ap line_tokens is

  put_sound : (ts : List Token) (l : WrittenLine) → put_at n ts ≡ Some l → tokens.Word words.Put ∷ ts ≡ line_tokens l
  put_sound ts l h =
      let x = bind_some (name_at ts) (λ (x : Name × List Token). after_open x.1 >>= λ (us : List Token). until_bracket (expr_at n) us >>= λ (i : Found). after_equal i.1 >>= λ (vs : List Token). last_expr n vs >>= λ (e : WrittenExpr). Some (Put x.0 i.0 e)) l h in
      let u = bind_some (after_open x.0.1) (λ (us : List Token). until_bracket (expr_at n) us >>= λ (i : Found). after_equal i.1 >>= λ (vs : List Token). last_expr n vs >>= λ (e : WrittenExpr). Some (Put x.0.0 i.0 e)) l x.2 in
      let i = bind_some (until_bracket (expr_at n) u.0) (λ (i : Found). after_equal i.1 >>= λ (vs : List Token). last_expr n vs >>= λ (e : WrittenExpr). Some (Put x.0.0 i.0 e)) l u.2 in
      let v = bind_some (after_equal i.0.1) (λ (vs : List Token). last_expr n vs >>= λ (e : WrittenExpr). Some (Put x.0.0 i.0.0 e)) l i.2 in
      let e = bind_some (last_expr n v.0) (λ (e : WrittenExpr). Some (Put x.0.0 i.0.0 e)) l v.2 in
      let is : Put x.0.0 i.0.0 e.0 ≡ l = let k : Some (Put x.0.0 i.0.0 e.0) ≡ Some l = e.2 in cc in
      let s = until_bracket_sound n (expr_at n) (expr_sound n) u.0 i.0 i.1 in
      let rest : i.0.1 ≡ equal ∷ expr_tokens e.0 = equal_sound i.0.1 v.0 v.1 ∙ ap (λ r. equal ∷ r) (last_sound v.0 e.0 e.1) in
      ap (λ r. tokens.Word words.Put ∷ r) (name_sound ts x.0 x.1 ∙ ap (λ r. tokens.Name x.0.0 ∷ r) (open_sound x.0.1 u.0 u.1 ∙ ap (λ r. bracket_open ∷ r) (s.text ∙ ap (λ r. expr_tokens i.0.0 ++ (bracket_close ∷ r)) rest))) ∙ ap line_tokens is

  for_sound : (ts : List Token) (l : WrittenLine) → for_at ts ≡ Some l → tokens.Word words.For ∷ ts ≡ line_tokens l
  for_sound ts l h =
      let x = bind_some (name_at ts) (λ (x : Name × List Token). number_at x.1 >>= λ (k : ℕ × List Token). ended k.1 (For x.0 k.0)) l h in
      let k = bind_some (number_at x.0.1) (λ (k : ℕ × List Token). ended k.1 (For x.0.0 k.0)) l x.2 in
      let d = ended_sound k.0.1 (For x.0.0 k.0.0) l k.2 in
      ap (λ r. tokens.Word words.For ∷ r) (name_sound ts x.0 x.1 ∙ ap (λ r. tokens.Name x.0.0 ∷ r) (number_sound x.0.1 k.0 k.1 ∙ ap (λ r. tokens.Number k.0.0 ∷ r) d.0)) ∙ ap line_tokens d.1

  pub line_sound : (ts : List Token) (l : WrittenLine) → line_at n ts ≡ Some l → ts ≡ line_tokens l
  line_sound (tokens.Word words.Set ∷ ts) l h = set_sound ts l h
  line_sound (tokens.Word words.Put ∷ ts) l h = put_sound ts l h
  line_sound (tokens.Word words.For ∷ ts) l h = for_sound ts l h
  line_sound (tokens.Word words.Done ∷ ts) l h = let d = ended_sound ts Done l h in ap (λ r. tokens.Word words.Done ∷ r) d.0 ∙ ap line_tokens d.1
  line_sound ts l h = absurd (let k : None ≡ Some l = h in cc)

pub line_counted : (l : WrittenLine) → written_line_brackets l ≤ depth_of (line_tokens l)
line_counted l = omega (arith, line_deep l)

some_line : (a b : WrittenLine) → Some a ≡ Some b → a ≡ b
some_line a b h = cc

-- tokens are one line at most
pub same_line : (ts : List Token) → depth_of ts ≤ DEPTH → (m l : WrittenLine) → ts ≡ line_tokens m → line_at (DEPTH + 1) ts ≡ Some l → m ≡ l
same_line ts d m l e h =
    let k : depth_of ts ≡ depth_of (line_tokens m) = ap depth_of e in
    some_line m l (sym (ap (line_at (DEPTH + 1)) e ∙ line_again m (DEPTH + 1) (omega (arith, line_counted m))) ∙ h)

-- tokens that are not read are no line
pub no_line : (ts : List Token) → depth_of ts ≤ DEPTH → line_at (DEPTH + 1) ts ≡ None → (l : WrittenLine) → ts ≡ line_tokens l → ⊥
no_line ts d h l e =
    let k : depth_of ts ≡ depth_of (line_tokens l) = ap depth_of e in
    let again : line_at (DEPTH + 1) ts ≡ Some l = ap (line_at (DEPTH + 1)) e ∙ line_again l (DEPTH + 1) (omega (arith, line_counted l)) in
    let both : None ≡ Some l = sym h ∙ again in
    absurd cc

-- an expression has no more nodes than tokens
sized : (e : WrittenExpr) → written_nodes e ≤ length (expr_tokens e)
sized (Num n) = omega arith
sized (Local name) = omega arith
sized Frame = omega arith
sized (Get name index) = omega (arith, sized index, length-append (expr_tokens index) (bracket_close ∷ []))
sized (Bin op a b) = omega (arith, sized a, sized b, length-append (expr_tokens a) (operator_token op ∷ (expr_tokens b ++ (paren_close ∷ []))), length-append (expr_tokens b) (paren_close ∷ []))
sized (Sel c a b) =
    omega (arith, sized c, sized a, sized b, length-append (expr_tokens c) (question ∷ (expr_tokens a ++ (colon ∷ (expr_tokens b ++ (paren_close ∷ []))))), length-append (expr_tokens a) (colon ∷ (expr_tokens b ++ (paren_close ∷ []))), length-append (expr_tokens b) (paren_close ∷ []))

line_sized : (l : WrittenLine) → written_line_nodes l ≤ length (line_tokens l)
line_sized (Set name e) = omega (arith, sized e)
line_sized (Put name index e) = omega (arith, sized index, sized e, length-append (expr_tokens index) (bracket_close ∷ (equal ∷ expr_tokens e)))
line_sized (For name count) = omega arith
line_sized Done = omega arith

pub few_nodes : (ts : List Token) (us : List SpannedToken) (l : WrittenLineValue) (most : ℕ) → line_at (DEPTH + 1) ts ≡ Some (written_line_of l) → ts ≡ tokens_in us → length us < most → written_line_nodes (written_line_of l) < most
few_nodes ts us l most h e m =
    let k : length ts ≡ length (line_tokens (written_line_of l)) = ap (λ (xs : List Token). length xs) (line_sound (DEPTH + 1) ts (written_line_of l) h) in
    let n : length ts ≡ length us = ap (λ (xs : List Token). length xs) e ∙ length-map us (λ (s : SpannedToken). s.token) in
    omega (arith, k, n, line_sized (written_line_of l))

pub few_brackets : (ts : List Token) (us : List SpannedToken) (l : WrittenLineValue) → line_at (DEPTH + 1) ts ≡ Some (written_line_of l) → ts ≡ tokens_in us → depth_of (tokens_in us) ≤ DEPTH → written_line_brackets (written_line_of l) ≤ DEPTH
few_brackets ts us l h e d =
    let k : depth_of (tokens_in us) ≡ depth_of (line_tokens (written_line_of l)) = ap depth_of (sym e ∙ line_sound (DEPTH + 1) ts (written_line_of l) h) in
    omega (arith, k, line_counted (written_line_of l))

-- tokens are those of one line at most
pub line_is_unique : LineIsUnique
line_is_unique a b e =
    let n : ℕ = suc (written_line_brackets a + written_line_brackets b) in
    let left : line_at n (line_tokens a) ≡ Some a = line_again a n (omega arith) in
    let right : line_at n (line_tokens b) ≡ Some b = line_again b n (omega arith) in
    some_line a b (sym left ∙ ap (line_at n) e ∙ right)

-- reading decides whether tokens are a line
by_reading : (ts : List Token) → depth_of ts ≤ DEPTH → (o : Option WrittenLine) → line_at (DEPTH + 1) ts ≡ o
    → ((l : WrittenLine) × (ts ≡ line_tokens l)) ⊎ ((l : WrittenLine) → ts ≢ line_tokens l)
by_reading ts d (Some l) e = inl (l, line_sound (DEPTH + 1) ts l e)
by_reading ts d None e = inr (no_line ts d e)

pub line_is_decided : LineIsDecided
line_is_decided ts d = by_reading ts d (line_at (DEPTH + 1) ts) refl
