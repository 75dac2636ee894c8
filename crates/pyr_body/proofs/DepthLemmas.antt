-- The depth of a line's tokens is the greatest number of its brackets that are open at once.
use Rattle.std.proofs.Common.{◌≡◌, ℕ, ◌+◌, ◌-◌, ◌≤◌, max, List, [], ◌∷◌, ◌++◌, refl, ap, ◌∙◌, arith}
use Rattle.std.proofs.lemmas.List.{append-nil}
use Rattle.pyr_num.specs.declared.arithmetic.Bin.{Bin as Operator}
use Rattle.pyr_num.specs.declared.arithmetic.Bin.TheVariants.{Add, Sub, Mul, Div, Rem, And, Or, Xor, Shl, Shr, Min, Max, Eq, Lt}
use Rattle.pyr_lex.specs.declared.token.Token.{Token}
use Rattle.pyr_lex.specs.declared.token.Token.TheVariants as tokens
use Rattle.pyr_lex.specs.Depth.{count_after, depth_from, depth_of}
use Rattle.pyr_body.specs.Operator.{operator_token}
use Rattle.pyr_body.specs.Written.{WrittenExpr, Num, Local, Frame, Get, Bin, Sel, written_brackets, WrittenLine, Set, Put, For, Done, written_line_brackets}
use Rattle.pyr_body.specs.Spelling.{expr_tokens, line_tokens, paren_open, paren_close, bracket_open, bracket_close, question, colon, equal}
use Rattle.pyr_body.proofs.Readable.{after_all}

-- an operator is no bracket
operator_level : (op : Operator) (c : ℕ) → count_after (operator_token op) c ≡ c
operator_level Add c = refl
operator_level Sub c = refl
operator_level Mul c = refl
operator_level Div c = refl
operator_level Rem c = refl
operator_level And c = refl
operator_level Or c = refl
operator_level Xor c = refl
operator_level Shl c = refl
operator_level Shr c = refl
operator_level Min c = refl
operator_level Max c = refl
operator_level Eq c = refl
operator_level Lt c = refl

starts : (c : ℕ) (ts : List Token) → c ≤ depth_from c ts
starts c [] = omega arith
starts c (t ∷ ts) = omega arith

closed : (c : ℕ) → c + 1 - 1 ≡ c
closed c = omega arith

-- after an expression the counter is as before, and its written_brackets were the most
deep : (e : WrittenExpr) (c : ℕ) (rest : List Token) → depth_from c (expr_tokens e ++ rest) ≡ max (c + written_brackets e) (depth_from c rest)
deep (Num n) c rest = omega (arith, starts c rest)
deep (Local name) c rest = omega (arith, starts c rest)
deep Frame c rest = omega (arith, starts c rest)
deep (Get name index) c rest =
    let i = deep index (c + 1) (bracket_close ∷ rest) in
    let e : expr_tokens (Get name index) ++ rest ≡ tokens.Name name ∷ (bracket_open ∷ (expr_tokens index ++ (bracket_close ∷ rest))) =
    ap (λ l. tokens.Name name ∷ (bracket_open ∷ l)) (after_all (expr_tokens index) bracket_close [] rest) in
    let back : depth_from (c + 1 - 1) rest ≡ depth_from c rest = ap (λ k. depth_from k rest) (closed c) in
    let d : depth_from c (expr_tokens (Get name index) ++ rest) ≡ max c (max c (depth_from (c + 1) (expr_tokens index ++ (bracket_close ∷ rest)))) = ap (depth_from c) e in
    omega (arith, i, d, back, starts c rest)
deep (Bin op a b) c rest =
    let us : List Token = expr_tokens b ++ (paren_close ∷ rest) in
    let i = deep a (c + 1) (operator_token op ∷ us) in
    let j = deep b (c + 1) (paren_close ∷ rest) in
    let e : expr_tokens (Bin op a b) ++ rest ≡ paren_open ∷ (expr_tokens a ++ (operator_token op ∷ us)) =
    ap (λ l. paren_open ∷ l) (after_all (expr_tokens a) (operator_token op) _ rest ∙ ap (λ l. expr_tokens a ++ (operator_token op ∷ l)) (after_all (expr_tokens b) paren_close [] rest)) in
    let back : depth_from (c + 1 - 1) rest ≡ depth_from c rest = ap (λ k. depth_from k rest) (closed c) in
    let level : depth_from (count_after (operator_token op) (c + 1)) us ≡ depth_from (c + 1) us = ap (λ k. depth_from k us) (operator_level op (c + 1)) in
    let d : depth_from c (expr_tokens (Bin op a b) ++ rest) ≡ max c (depth_from (c + 1) (expr_tokens a ++ (operator_token op ∷ us))) = ap (depth_from c) e in
    omega (arith, i, j, d, level, back, starts c rest)
deep (Sel x a b) c rest =
    let vs : List Token = expr_tokens b ++ (paren_close ∷ rest) in
    let us : List Token = expr_tokens a ++ (colon ∷ vs) in
    let i = deep x (c + 1) (question ∷ us) in
    let j = deep a (c + 1) (colon ∷ vs) in
    let k = deep b (c + 1) (paren_close ∷ rest) in
    let e : expr_tokens (Sel x a b) ++ rest ≡ paren_open ∷ (expr_tokens x ++ (question ∷ us)) =
    ap (λ l. paren_open ∷ l) (after_all (expr_tokens x) question _ rest ∙ ap (λ l. expr_tokens x ++ (question ∷ l)) (after_all (expr_tokens a) colon _ rest ∙ ap (λ l. expr_tokens a ++ (colon ∷ l)) (after_all (expr_tokens b) paren_close [] rest))) in
    let back : depth_from (c + 1 - 1) rest ≡ depth_from c rest = ap (λ k. depth_from k rest) (closed c) in
    let d : depth_from c (expr_tokens (Sel x a b) ++ rest) ≡ max c (depth_from (c + 1) (expr_tokens x ++ (question ∷ us))) = ap (depth_from c) e in
    omega (arith, i, j, k, d, back, starts c rest)

expr_deep : (e : WrittenExpr) → depth_of (expr_tokens e) ≡ written_brackets e
expr_deep e = let d : depth_of (expr_tokens e ++ []) ≡ depth_of (expr_tokens e) = ap depth_of (append-nil (expr_tokens e)) in omega (arith, deep e 0 [], d)

pub line_deep : (l : WrittenLine) → depth_of (line_tokens l) ≡ written_line_brackets l
line_deep (Set name e) = omega (arith, expr_deep e)
line_deep (Put name index e) = omega (arith, deep index 1 (bracket_close ∷ (equal ∷ expr_tokens e)), expr_deep e)
line_deep (For name count) = omega arith
line_deep Done = omega arith
