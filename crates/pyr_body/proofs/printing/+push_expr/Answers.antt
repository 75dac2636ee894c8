use Rattle.std.proofs.Common.{◌≡◌, ℕ, List, [], ◌∷◌, ◌++◌, Result, ap, ◌∙◌, append_assoc}
use Rattle.pyr_num.specs.declared.arithmetic.Bin.{Bin as Operator}
use Rattle.std.specs.Result.{OnOk}
use Rattle.std.proofs.lemmas.Result.{on_ok_weaker}
use Rattle.pyr_lex.specs.declared.token.Token.{Token}
use Rattle.pyr_lex.specs.declared.token.Token.TheVariants as kinds
use Rattle.pyr_body.specs.declared.expr.Expr.{Expr as ExprValue}
use Rattle.pyr_body.specs.declared.expr.Expr.TheViews as values
use Rattle.pyr_body.specs.declared.expr.Expr.TheFolds.{the_lemmas}
use Rattle.pyr_body.specs.Tree as tree
use Rattle.pyr_body.specs.Seen.{expr_of}
use Rattle.pyr_body.specs.Spelling.{expr_tokens, paren_open, paren_close, bracket_open, bracket_close, question, colon}
use Rattle.pyr_body.specs.Named.{with_names}
use Rattle.pyr_body.proofs.printing.+push_expr.Goals as goal

-- tokens behind a line, and others behind them
behind : (l m n x y : List Token) → m ≡ l ++ x → n ≡ m ++ y → n ≡ l ++ (x ++ y)
behind l m n x y first second = second ∙ ap (λ r. r ++ y) first ∙ append_assoc l x y

-- one token behind a line, and others behind it
one : (l m n : List Token) (t : Token) (y : List Token) → m ≡ l ++ t ∷ [] → n ≡ m ++ y → n ≡ l ++ t ∷ y
one l m n t y = behind l m n (t ∷ []) y

-- The tokens of an expression with parts, pushed one after another. A part is seen under two names.
module _ (tokens : ExprValue → List Token) {E : Type 0} (last : Result (Unit {0}) E) where
  part : (l m n y : List Token) (e f : ExprValue) → f ≡ e → m ≡ l ++ tokens f → n ≡ m ++ y → n ≡ l ++ (tokens e ++ y)
  part l m n y e f same first second = behind l m n (tokens e) y (first ∙ ap (λ x. l ++ tokens x) same) second

  get_pushed : (l l1 l2 l3 n : List Token) (name : Token) (i i' : ExprValue) → i' ≡ i
      → l1 ≡ l ++ name ∷ [] → l2 ≡ l1 ++ bracket_open ∷ [] → l3 ≡ l2 ++ tokens i'
      → OnOk last (n ≡ l3 ++ bracket_close ∷ []) → OnOk last (n ≡ l ++ name ∷ (bracket_open ∷ (tokens i ++ (bracket_close ∷ []))))
  get_pushed l l1 l2 l3 n name i i' same a b c =
      on_ok_weaker last (λ d. one l l1 n name _ a (one l1 l2 n bracket_open _ b (part l2 l3 n _ i i' same c d)))

  bin_pushed : (l l1 l2 l3 l4 n : List Token) (op : Token) (x x' y y' : ExprValue) → x' ≡ x → y' ≡ y
      → l1 ≡ l ++ paren_open ∷ [] → l2 ≡ l1 ++ tokens x' → l3 ≡ l2 ++ op ∷ [] → l4 ≡ l3 ++ tokens y'
      → OnOk last (n ≡ l4 ++ paren_close ∷ [])
      → OnOk last (n ≡ l ++ paren_open ∷ (tokens x ++ (op ∷ (tokens y ++ (paren_close ∷ [])))))
  bin_pushed l l1 l2 l3 l4 n op x x' y y' same_x same_y a b c d =
      on_ok_weaker last (λ e. one l l1 n paren_open _ a (part l1 l2 n _ x x' same_x b (one l2 l3 n op _ c (part l3 l4 n _ y y' same_y d e))))

  sel_pushed : (l l1 l2 l3 l4 l5 l6 n : List Token) (x x' y y' z z' : ExprValue) → x' ≡ x → y' ≡ y → z' ≡ z
      → l1 ≡ l ++ paren_open ∷ [] → l2 ≡ l1 ++ tokens x' → l3 ≡ l2 ++ question ∷ [] → l4 ≡ l3 ++ tokens y'
      → l5 ≡ l4 ++ colon ∷ [] → l6 ≡ l5 ++ tokens z'
      → OnOk last (n ≡ l6 ++ paren_close ∷ [])
      → OnOk last (n ≡ l ++ paren_open ∷ (tokens x ++ (question ∷ (tokens y ++ (colon ∷ (tokens z ++ (paren_close ∷ [])))))))
  sel_pushed l l1 l2 l3 l4 l5 l6 n x x' y y' z z' same_x same_y same_z a b c d e f =
      on_ok_weaker last (λ g. one l l1 n paren_open _ a (part l1 l2 n _ x x' same_x b (one l2 l3 n question _ c (part l3 l4 n _ y y' same_y d (one l4 l5 n colon _ e (part l5 l6 n _ z z' same_z f g))))))

-- the trees of expressions with parts
get_is : (e : ExprValue) (slot : ℕ) (index : ExprValue) → e ≡ values.Get slot index → expr_of e ≡ tree.Get slot (expr_of index)
get_is e slot index is = ap expr_of is ∙ search the_lemmas

bin_is : (e : ExprValue) (operator : Operator) (a b : ExprValue) → e ≡ values.Bin operator a b → expr_of e ≡ tree.Bin operator (expr_of a) (expr_of b)
bin_is e operator a b is = ap expr_of is ∙ search the_lemmas

sel_is : (e c a b : ExprValue) → e ≡ values.Sel c a b → expr_of e ≡ tree.Sel (expr_of c) (expr_of a) (expr_of b)
sel_is e c a b is = ap expr_of is ∙ search the_lemmas

pub returns-in_ok-push_expr-in-Get : goal.returns-in_ok-push_expr-in-Get
returns-in_ok-push_expr-in-Get t c =
    let tokens = λ (e : ExprValue). expr_tokens (with_names c.args.locals.now (c.args.names.now.reads ++ c.args.names.now.writes) (expr_of e)) in
    rw (get_is c.args.expression.now _ _ c.in-Get.is, ← c.slot_name.ensures)
    (get_pushed tokens c.push-in-Get-3.result c.args.line.now c.push-in-Get.new.self c.push-in-Get-2.new.self c.push_expr.new.line c.push-in-Get-3.new.self (kinds.Name c.slot_name.result) c.in-Get.index c.get.result.now c.get.ensures
    c.in_ok-push-in-Get.ensures.ok c.in_ok-push-in-Get-2.ensures.ok c.in_ok-push_expr-in-Get.ensures c.push-in-Get-3.ensures.ok)

pub returns-in_ok-push_expr-in-Bin-2 : goal.returns-in_ok-push_expr-in-Bin-2
returns-in_ok-push_expr-in-Bin-2 t c =
    let tokens = λ (e : ExprValue). expr_tokens (with_names c.args.locals.now (c.args.names.now.reads ++ c.args.names.now.writes) (expr_of e)) in
    rw (bin_is c.args.expression.now _ _ _ c.in-Bin.is, ← c.operator_token.ensures)
    (bin_pushed tokens c.push-in-Bin-3.result c.args.line.now c.push-in-Bin.new.self c.push_expr-in-Bin.new.line c.push-in-Bin-2.new.self c.push_expr-in-Bin-2.new.line c.push-in-Bin-3.new.self c.operator_token.result c.in-Bin.a c.get-in-Bin.result.now c.in-Bin.b c.get-in-Bin-2.result.now c.get-in-Bin.ensures c.get-in-Bin-2.ensures
    c.in_ok-push-in-Bin.ensures.ok c.in_ok-push_expr-in-Bin.ensures c.in_ok-push-in-Bin-2.ensures.ok c.in_ok-push_expr-in-Bin-2.ensures c.push-in-Bin-3.ensures.ok)

pub returns-in_ok-push_expr-in-Sel-3 : goal.returns-in_ok-push_expr-in-Sel-3
returns-in_ok-push_expr-in-Sel-3 t c =
    let tokens = λ (e : ExprValue). expr_tokens (with_names c.args.locals.now (c.args.names.now.reads ++ c.args.names.now.writes) (expr_of e)) in
    rw (sel_is c.args.expression.now _ _ _ c.in-Sel.is)
    (sel_pushed tokens c.push-in-Sel-4.result c.args.line.now c.push-in-Sel.new.self c.push_expr-in-Sel.new.line c.push-in-Sel-2.new.self c.push_expr-in-Sel-2.new.line c.push-in-Sel-3.new.self c.push_expr-in-Sel-3.new.line c.push-in-Sel-4.new.self
    c.in-Sel.c c.get-in-Sel.result.now c.in-Sel.a c.get-in-Sel-2.result.now c.in-Sel.b c.get-in-Sel-3.result.now c.get-in-Sel.ensures c.get-in-Sel-2.ensures c.get-in-Sel-3.ensures
    c.in_ok-push-in-Sel.ensures.ok c.in_ok-push_expr-in-Sel.ensures c.in_ok-push-in-Sel-2.ensures.ok c.in_ok-push_expr-in-Sel-2.ensures c.in_ok-push-in-Sel-3.ensures.ok c.in_ok-push_expr-in-Sel-3.ensures c.push-in-Sel-4.ensures.ok)
