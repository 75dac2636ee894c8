-- What is spelled is read again, whatever follows it, and what is read is spelled so.
use Rattle.std.proofs.Common.{◌≡◌, ℕ, zero, suc, ◌<◌, ◌+◌, List, [], ◌∷◌, ◌++◌, Option, Some, None, refl, sym, ap, subst, ◌∙◌, arith, append_assoc}
use Rattle.std.specs.Prelude.{◌≢◌}
use Rattle.pyr_num.specs.declared.arithmetic.Bin.{Bin as Operator}
use Rattle.pyr_num.specs.declared.arithmetic.Bin.TheVariants.{Add, Sub, Mul, Div, Rem, And, Or, Xor, Shl, Shr, Min, Max, Eq, Lt}
use Rattle.pyr_num.specs.declared.name.Name.{Name}
use Rattle.pyr_lex.specs.declared.token.Token.{Token}
use Rattle.pyr_lex.specs.declared.token.Token.TheVariants as tokens
use Rattle.pyr_lex.specs.declared.word.Word.TheVariants as words
use Rattle.pyr_lex.specs.declared.symbol.Symbol.{Symbol as SymbolKind}
use Rattle.pyr_lex.specs.declared.symbol.Symbol.TheVariants as symbols
use Rattle.pyr_body.specs.Written.{WrittenExpr, Num, Local, Frame, Get, Bin, Sel, written_brackets}
use Rattle.pyr_body.specs.Operator.{operator_token, token_operator, symbol_operator}
use Rattle.pyr_body.specs.Spelling.{expr_tokens, paren_open, paren_close, bracket_open, bracket_close, question, colon, IsNotOpened, EndsBefore, IsUniquelyReadable}
use Rattle.pyr_body.specs.Reading.{◌>>=◌, Found, after_paren, after_bracket, after_colon, until_paren, until_bracket, until_colon, named_from, apply_from, select_from, rest_from, operands_from, group_from, expr_front, expr_at}

operator_again : (op : Operator) → token_operator (operator_token op) ≡ Some op
operator_again Add = refl
operator_again Sub = refl
operator_again Mul = refl
operator_again Div = refl
operator_again Rem = refl
operator_again And = refl
operator_again Or = refl
operator_again Xor = refl
operator_again Shl = refl
operator_again Shr = refl
operator_again Min = refl
operator_again Max = refl
operator_again Eq = refl
operator_again Lt = refl

operator_opens : (op : Operator) → operator_token op ≢ bracket_open
operator_opens op e = let k : token_operator (operator_token op) ≡ None = ap token_operator e in let s : Some op ≡ None = sym (operator_again op) ∙ k in cc

-- before a token that isn't `[` each expression ends
pub ends_before : (e : WrittenExpr) (t : Token) (rest : List Token) → t ≢ bracket_open → EndsBefore e (t ∷ rest)
ends_before (Num n) t rest h = tt
ends_before (Local name) t rest h = h
ends_before Frame t rest h = tt
ends_before (Get name index) t rest h = tt
ends_before (Bin op a b) t rest h = tt
ends_before (Sel c a b) t rest h = tt

-- a token after a list
pub after_all : (a : List Token) (t : Token) (b rest : List Token) → (a ++ (t ∷ b)) ++ rest ≡ a ++ (t ∷ (b ++ rest))
after_all a t b rest = append_assoc a (t ∷ b) rest

named_again : (name : Name) (rest : List Token) (go : List Token → Option Found) → IsNotOpened rest → named_from go name rest ≡ Some (Local name, rest)
named_again name [] go h = refl
named_again name (tokens.Symbol symbols.BracketOpen ∷ rest) go h = absurd (h refl)
named_again name (t ∷ rest) go h = refl

module _ (go : List Token → Option Found) where
  paren_again : (ts rest : List Token) (e : WrittenExpr) → go ts ≡ Some (e, paren_close ∷ rest) → until_paren go ts ≡ Some (e, rest)
  paren_again ts rest e h = rw h refl

  pub bracket_again : (ts rest : List Token) (e : WrittenExpr) → go ts ≡ Some (e, bracket_close ∷ rest) → until_bracket go ts ≡ Some (e, rest)
  bracket_again ts rest e h = rw h refl

  colon_again : (ts rest : List Token) (e : WrittenExpr) → go ts ≡ Some (e, colon ∷ rest) → until_colon go ts ≡ Some (e, rest)
  colon_again ts rest e h = rw h refl

  get_again : (ts rest : List Token) (name : Name) (e : WrittenExpr) → until_bracket go ts ≡ Some (e, rest) → named_from go name (bracket_open ∷ ts) ≡ Some (Get name e, rest)
  get_again ts rest name e h = ap (λ r. r >>= λ (x : Found). Some (Get name x.0, x.1)) h

  apply_again : (ts us rest : List Token) (op : Operator) (a b : WrittenExpr) → go ts ≡ Some (a, operator_token op ∷ us) → until_paren go us ≡ Some (b, rest) → group_from go ts ≡ Some (Bin op a b, rest)
  apply_again ts us rest op a b h k =
      ap (λ r. r >>= λ (x : Found). operands_from go x.0 x.1) h
      ∙ ap (λ o. rest_from go a o (operator_token op) us) (operator_again op)
      ∙ ap (λ r. r >>= λ (x : Found). Some (Bin op a x.0, x.1)) k

  select_again : (ts us vs rest : List Token) (c a b : WrittenExpr) → go ts ≡ Some (c, question ∷ us) → until_colon go us ≡ Some (a, vs) → until_paren go vs ≡ Some (b, rest) → group_from go ts ≡ Some (Sel c a b, rest)
  select_again ts us vs rest c a b h k l =
      ap (λ r. r >>= λ (x : Found). operands_from go x.0 x.1) h
      ∙ ap (λ r. r >>= λ (x : Found). until_paren go x.1 >>= λ (y : Found). Some (Sel c x.0 y.0, y.1)) k
      ∙ ap (λ r. r >>= λ (y : Found). Some (Sel c a y.0, y.1)) l

pub expr_again : (e : WrittenExpr) (n : ℕ) (rest : List Token) → written_brackets e < n → EndsBefore e rest → expr_at n (expr_tokens e ++ rest) ≡ Some (e, rest)
expr_again e zero rest l h = absurd (omega (arith, l))
expr_again (Num k) (suc n) rest l h = refl
expr_again (Local name) (suc n) rest l h = named_again name rest (expr_at n) h
expr_again Frame (suc n) rest l h = refl
expr_again (Get name index) (suc n) rest l h =
    let inner : expr_at n (expr_tokens index ++ (bracket_close ∷ rest)) ≡ Some (index, bracket_close ∷ rest) =
    expr_again index n (bracket_close ∷ rest) (omega (arith, l)) (ends_before index bracket_close rest (λ e. cc)) in
    get_again (expr_at n) _ rest name index (bracket_again (expr_at n) _ rest index (ap (expr_at n) (after_all (expr_tokens index) bracket_close [] rest) ∙ inner))
expr_again (Bin op a b) (suc n) rest l h =
    let us : List Token = (expr_tokens b ++ (paren_close ∷ [])) ++ rest in
    let left : expr_at n (expr_tokens a ++ (operator_token op ∷ us)) ≡ Some (a, operator_token op ∷ us) =
    expr_again a n (operator_token op ∷ us) (omega (arith, l)) (ends_before a (operator_token op) us (operator_opens op)) in
    let right : expr_at n (expr_tokens b ++ (paren_close ∷ rest)) ≡ Some (b, paren_close ∷ rest) =
    expr_again b n (paren_close ∷ rest) (omega (arith, l)) (ends_before b paren_close rest (λ e. cc)) in
    apply_again (expr_at n) _ us rest op a b (ap (expr_at n) (after_all (expr_tokens a) (operator_token op) _ rest) ∙ left) (paren_again (expr_at n) us rest b (ap (expr_at n) (after_all (expr_tokens b) paren_close [] rest) ∙ right))
expr_again (Sel c a b) (suc n) rest l h =
    let vs : List Token = (expr_tokens b ++ (paren_close ∷ [])) ++ rest in
    let us : List Token = (expr_tokens a ++ (colon ∷ (expr_tokens b ++ (paren_close ∷ [])))) ++ rest in
    let first : expr_at n (expr_tokens c ++ (question ∷ us)) ≡ Some (c, question ∷ us) =
    expr_again c n (question ∷ us) (omega (arith, l)) (ends_before c question us (λ e. cc)) in
    let second : expr_at n (expr_tokens a ++ (colon ∷ vs)) ≡ Some (a, colon ∷ vs) =
    expr_again a n (colon ∷ vs) (omega (arith, l)) (ends_before a colon vs (λ e. cc)) in
    let third : expr_at n (expr_tokens b ++ (paren_close ∷ rest)) ≡ Some (b, paren_close ∷ rest) =
    expr_again b n (paren_close ∷ rest) (omega (arith, l)) (ends_before b paren_close rest (λ e. cc)) in
    select_again (expr_at n) _ us vs rest c a b (ap (expr_at n) (after_all (expr_tokens c) question _ rest) ∙ first) (colon_again (expr_at n) us vs a (ap (expr_at n) (after_all (expr_tokens a) colon _ rest) ∙ second)) (paren_again (expr_at n) vs rest b (ap (expr_at n) (after_all (expr_tokens b) paren_close [] rest) ∙ third))

some_same : (x y : Found) → Some x ≡ Some y → x ≡ y
some_same x y h = cc

-- no spelling begins another
pub uniquely_readable : IsUniquelyReadable
uniquely_readable a b x y h k e =
    let n : ℕ = suc (written_brackets a + written_brackets b) in
    let left : expr_at n (expr_tokens a ++ x) ≡ Some (a, x) = expr_again a n x (omega arith) h in
    let right : expr_at n (expr_tokens b ++ y) ≡ Some (b, y) = expr_again b n y (omega arith) k in
    let both = some_same (a, x) (b, y) (sym left ∙ ap (expr_at n) e ∙ right) in
    (ap (λ (p : Found). p.0) both, ap (λ (p : Found). p.1) both)

-- what is read is spelled so
pub record Reads (n : ℕ) (ts : List Token) (found : Found) : Type 0 where
  pub text : ts ≡ expr_tokens found.0 ++ found.1
  pub ends : EndsBefore found.0 found.1
  pub few : written_brackets found.0 < n

-- the same, with the token that ends the expression
pub record ReadsUntil (n : ℕ) (t : Token) (ts : List Token) (found : Found) : Type 0 where
  pub text : ts ≡ expr_tokens found.0 ++ (t ∷ found.1)
  pub few : written_brackets found.0 < n

pub bind_some : {A B : Type 0} (r : Option A) (f : A → Option B) (y : B) → (r >>= f) ≡ Some y → (x : A) × (r ≡ Some x) × (f x ≡ Some y)
bind_some None f y h = absurd (let k : None ≡ Some y = h in cc)
bind_some (Some x) f y h = (x, refl, h)

paren_sound : (ts rest : List Token) → after_paren ts ≡ Some rest → ts ≡ paren_close ∷ rest
paren_sound (tokens.Symbol symbols.ParenClose ∷ ts) rest h = let k : Some ts ≡ Some rest = h in cc
paren_sound ts rest h = absurd (let k : None ≡ Some rest = h in cc)

bracket_sound : (ts rest : List Token) → after_bracket ts ≡ Some rest → ts ≡ bracket_close ∷ rest
bracket_sound (tokens.Symbol symbols.BracketClose ∷ ts) rest h = let k : Some ts ≡ Some rest = h in cc
bracket_sound ts rest h = absurd (let k : None ≡ Some rest = h in cc)

colon_sound : (ts rest : List Token) → after_colon ts ≡ Some rest → ts ≡ colon ∷ rest
colon_sound (tokens.Symbol symbols.Colon ∷ ts) rest h = let k : Some ts ≡ Some rest = h in cc
colon_sound ts rest h = absurd (let k : None ≡ Some rest = h in cc)

symbol_operator_sound : (s : SymbolKind) (op : Operator) → symbol_operator s ≡ Some op → tokens.Symbol s ≡ operator_token op
symbol_operator_sound symbols.Plus op h = let k : Some Add ≡ Some op = h in let j : Add ≡ op = cc in ap operator_token j
symbol_operator_sound symbols.Minus op h = let k : Some Sub ≡ Some op = h in let j : Sub ≡ op = cc in ap operator_token j
symbol_operator_sound symbols.Star op h = let k : Some Mul ≡ Some op = h in let j : Mul ≡ op = cc in ap operator_token j
symbol_operator_sound symbols.Slash op h = let k : Some Div ≡ Some op = h in let j : Div ≡ op = cc in ap operator_token j
symbol_operator_sound symbols.Percent op h = let k : Some Rem ≡ Some op = h in let j : Rem ≡ op = cc in ap operator_token j
symbol_operator_sound symbols.Amp op h = let k : Some And ≡ Some op = h in let j : And ≡ op = cc in ap operator_token j
symbol_operator_sound symbols.Bar op h = let k : Some Or ≡ Some op = h in let j : Or ≡ op = cc in ap operator_token j
symbol_operator_sound symbols.Caret op h = let k : Some Xor ≡ Some op = h in let j : Xor ≡ op = cc in ap operator_token j
symbol_operator_sound symbols.ShiftLeft op h = let k : Some Shl ≡ Some op = h in let j : Shl ≡ op = cc in ap operator_token j
symbol_operator_sound symbols.ShiftRight op h = let k : Some Shr ≡ Some op = h in let j : Shr ≡ op = cc in ap operator_token j
symbol_operator_sound symbols.EqualEqual op h = let k : Some Eq ≡ Some op = h in let j : Eq ≡ op = cc in ap operator_token j
symbol_operator_sound symbols.Less op h = let k : Some Lt ≡ Some op = h in let j : Lt ≡ op = cc in ap operator_token j
symbol_operator_sound s op h = absurd (let k : None ≡ Some op = h in cc)

operator_sound : (t : Token) (op : Operator) → token_operator t ≡ Some op → t ≡ operator_token op
operator_sound (tokens.Symbol s) op h = symbol_operator_sound s op h
operator_sound (tokens.Word words.Min) op h = let k : Some Min ≡ Some op = h in let j : Min ≡ op = cc in ap operator_token j
operator_sound (tokens.Word words.Max) op h = let k : Some Max ≡ Some op = h in let j : Max ≡ op = cc in ap operator_token j
operator_sound t op h = absurd (let k : None ≡ Some op = h in cc)

module _ (n : ℕ) (go : List Token → Option Found) (sound : (ts : List Token) (x : Found) → go ts ≡ Some x → Reads n ts x) where
  until_paren_sound : (ts : List Token) (x : Found) → until_paren go ts ≡ Some x → ReadsUntil n paren_close ts x
  until_paren_sound ts x h =
      let e = bind_some (go ts) (λ (y : Found). after_paren y.1 >>= λ (rest : List Token). Some (y.0, rest)) x h in
      let r = bind_some (after_paren e.0.1) (λ (rest : List Token). Some (e.0.0, rest)) x e.2 in
      let s = sound ts e.0 e.1 in
      let is : (e.0.0, r.0) ≡ x = some_same (e.0.0, r.0) x r.2 in
      subst (ReadsUntil n paren_close ts) is (record { text = s.text ∙ ap (λ l. expr_tokens e.0.0 ++ l) (paren_sound e.0.1 r.0 r.1); few = s.few })

  pub until_bracket_sound : (ts : List Token) (x : Found) → until_bracket go ts ≡ Some x → ReadsUntil n bracket_close ts x
  until_bracket_sound ts x h =
      let e = bind_some (go ts) (λ (y : Found). after_bracket y.1 >>= λ (rest : List Token). Some (y.0, rest)) x h in
      let r = bind_some (after_bracket e.0.1) (λ (rest : List Token). Some (e.0.0, rest)) x e.2 in
      let s = sound ts e.0 e.1 in
      let is : (e.0.0, r.0) ≡ x = some_same (e.0.0, r.0) x r.2 in
      subst (ReadsUntil n bracket_close ts) is (record { text = s.text ∙ ap (λ l. expr_tokens e.0.0 ++ l) (bracket_sound e.0.1 r.0 r.1); few = s.few })

  until_colon_sound : (ts : List Token) (x : Found) → until_colon go ts ≡ Some x → ReadsUntil n colon ts x
  until_colon_sound ts x h =
      let e = bind_some (go ts) (λ (y : Found). after_colon y.1 >>= λ (rest : List Token). Some (y.0, rest)) x h in
      let r = bind_some (after_colon e.0.1) (λ (rest : List Token). Some (e.0.0, rest)) x e.2 in
      let s = sound ts e.0 e.1 in
      let is : (e.0.0, r.0) ≡ x = some_same (e.0.0, r.0) x r.2 in
      subst (ReadsUntil n colon ts) is (record { text = s.text ∙ ap (λ l. expr_tokens e.0.0 ++ l) (colon_sound e.0.1 r.0 r.1); few = s.few })

  local_sound : (name : Name) (ts : List Token) (x : Found) → IsNotOpened ts → Some (Local name, ts) ≡ Some x → Reads (suc n) (tokens.Name name ∷ ts) x
  local_sound name ts x o h = subst (Reads (suc n) (tokens.Name name ∷ ts)) (some_same (Local name, ts) x h) (record { text = refl; ends = o; few = omega arith })

  named_sound : (name : Name) (ts : List Token) (x : Found) → named_from go name ts ≡ Some x → Reads (suc n) (tokens.Name name ∷ ts) x
  named_sound name [] x h = local_sound name [] x tt h
  named_sound name (tokens.Symbol symbols.BracketOpen ∷ ts) x h =
      let e = bind_some (until_bracket go ts) (λ (y : Found). Some (Get name y.0, y.1)) x h in
      let s = until_bracket_sound ts e.0 e.1 in
      subst (Reads (suc n) (tokens.Name name ∷ (bracket_open ∷ ts))) (some_same (Get name e.0.0, e.0.1) x e.2) (record {
        text = ap (λ l. tokens.Name name ∷ (bracket_open ∷ l)) (s.text ∙ sym (after_all (expr_tokens e.0.0) bracket_close [] e.0.1));
        ends = tt;
        few = omega (arith, s.few);
      })
  named_sound name (t ∷ ts) x h = local_sound name (t ∷ ts) x (λ e. cc) h

  apply_sound : (ts us : List Token) (a : WrittenExpr) (op : Operator) (x : Found) → ts ≡ expr_tokens a ++ (operator_token op ∷ us) → written_brackets a < n → apply_from go a op us ≡ Some x → Reads (suc n) (paren_open ∷ ts) x
  apply_sound ts us a op x k l h =
      let e = bind_some (until_paren go us) (λ (y : Found). Some (Bin op a y.0, y.1)) x h in
      let s = until_paren_sound us e.0 e.1 in
      let right : us ≡ (expr_tokens e.0.0 ++ (paren_close ∷ [])) ++ e.0.1 = s.text ∙ sym (after_all (expr_tokens e.0.0) paren_close [] e.0.1) in
      subst (Reads (suc n) (paren_open ∷ ts)) (some_same (Bin op a e.0.0, e.0.1) x e.2) (record {
        text = ap (λ l. paren_open ∷ l) (k ∙ ap (λ l. expr_tokens a ++ (operator_token op ∷ l)) right ∙ sym (after_all (expr_tokens a) (operator_token op) (expr_tokens e.0.0 ++ (paren_close ∷ [])) e.0.1));
        ends = tt;
        few = omega (arith, l, s.few);
      })

  select_sound : (ts us : List Token) (c : WrittenExpr) (x : Found) → ts ≡ expr_tokens c ++ (question ∷ us) → written_brackets c < n → select_from go c us ≡ Some x → Reads (suc n) (paren_open ∷ ts) x
  select_sound ts us c x k l h =
      let e = bind_some (until_colon go us) (λ (y : Found). until_paren go y.1 >>= λ (z : Found). Some (Sel c y.0 z.0, z.1)) x h in
      let s = until_colon_sound us e.0 e.1 in
      let f = bind_some (until_paren go e.0.1) (λ (z : Found). Some (Sel c e.0.0 z.0, z.1)) x e.2 in
      let u = until_paren_sound e.0.1 f.0 f.1 in
      let third : e.0.1 ≡ (expr_tokens f.0.0 ++ (paren_close ∷ [])) ++ f.0.1 = u.text ∙ sym (after_all (expr_tokens f.0.0) paren_close [] f.0.1) in
      let second : us ≡ (expr_tokens e.0.0 ++ (colon ∷ (expr_tokens f.0.0 ++ (paren_close ∷ [])))) ++ f.0.1 =
      s.text ∙ ap (λ l. expr_tokens e.0.0 ++ (colon ∷ l)) third ∙ sym (after_all (expr_tokens e.0.0) colon (expr_tokens f.0.0 ++ (paren_close ∷ [])) f.0.1) in
      subst (Reads (suc n) (paren_open ∷ ts)) (some_same (Sel c e.0.0 f.0.0, f.0.1) x f.2) (record {
        text = ap (λ l. paren_open ∷ l) (k ∙ ap (λ l. expr_tokens c ++ (question ∷ l)) second ∙ sym (after_all (expr_tokens c) question (expr_tokens e.0.0 ++ (colon ∷ (expr_tokens f.0.0 ++ (paren_close ∷ [])))) f.0.1));
        ends = tt;
        few = omega (arith, l, s.few, u.few);
      })

  rest_sound : (o : Option Operator) (t : Token) (ts us : List Token) (a : WrittenExpr) (x : Found) → token_operator t ≡ o → ts ≡ expr_tokens a ++ (t ∷ us) → written_brackets a < n → rest_from go a o t us ≡ Some x → Reads (suc n) (paren_open ∷ ts) x
  rest_sound (Some op) t ts us a x q k l h = apply_sound ts us a op x (k ∙ ap (λ u. expr_tokens a ++ (u ∷ us)) (operator_sound t op q)) l h
  rest_sound None (tokens.Symbol symbols.Question) ts us a x q k l h = select_sound ts us a x k l h
  rest_sound None t ts us a x q k l h = absurd (let j : None ≡ Some x = h in cc)

  operands_sound : (ts us : List Token) (a : WrittenExpr) (x : Found) → ts ≡ expr_tokens a ++ us → written_brackets a < n → operands_from go a us ≡ Some x → Reads (suc n) (paren_open ∷ ts) x
  operands_sound ts [] a x k l h = absurd (let j : None ≡ Some x = h in cc)
  operands_sound ts (t ∷ us) a x k l h = rest_sound (token_operator t) t ts us a x refl k l h

  expr_front_sound : (ts : List Token) (x : Found) → expr_front go ts ≡ Some x → Reads (suc n) ts x
  expr_front_sound (tokens.Number k ∷ ts) x h = subst (Reads (suc n) (tokens.Number k ∷ ts)) (some_same (Num k, ts) x h) (record { text = refl; ends = tt; few = omega arith })
  expr_front_sound (tokens.Name name ∷ ts) x h = named_sound name ts x h
  expr_front_sound (tokens.Word words.Frame ∷ ts) x h = subst (Reads (suc n) (tokens.Word words.Frame ∷ ts)) (some_same (Frame, ts) x h) (record { text = refl; ends = tt; few = omega arith })
  expr_front_sound (tokens.Symbol symbols.ParenOpen ∷ ts) x h =
      let e = bind_some (go ts) (λ (y : Found). operands_from go y.0 y.1) x h in
      let s = sound ts e.0 e.1 in
      operands_sound ts e.0.1 e.0.0 x s.text s.few e.2
  expr_front_sound ts x h = absurd (let j : None ≡ Some x = h in cc)

pub expr_sound : (n : ℕ) (ts : List Token) (x : Found) → expr_at n ts ≡ Some x → Reads n ts x
expr_sound zero ts x h = absurd (let j : None ≡ Some x = h in cc)
expr_sound (suc n) ts x h = expr_front_sound n (expr_at n) (expr_sound n) ts x h
