use Rattle.std.proofs.Common.{◌≡◌, ℕ, not, ◌+◌, ◌<◌, ◌≤◌, Bool, true, false, cond, List, [], ◌∷◌, length, refl, sym, ap, subst, ◌∙◌, arith, rules}
use Rattle.std.specs.Prelude.{nat_lt, nat_eq}
use Rattle.std.specs.List.{position_or_len}
use Rattle.std.proofs.lemmas.List.Sums.{prefix_len-le-length}
use Rattle.pyr_num.specs.declared.arithmetic.Bin.TheVariants.{Add, Mul}
use Rattle.pyr_num.specs.declared.name.Name.{Name}
use Rattle.pyr_body.specs.declared.expr.Expr.{Expr as ExprValue}
use Rattle.pyr_body.specs.declared.expr.Expr.TheVariants as exprs
use Rattle.pyr_body.specs.declared.expr.Expr.TheFolds.{the_lemmas as expr_lemmas}
use Rattle.pyr_body.specs.declared.stmt.Stmt.{Stmt as StmtValue}
use Rattle.pyr_body.specs.declared.stmt.Stmt.TheVariants as stmts
use Rattle.pyr_body.specs.declared.stmt.Stmt.TheFolds.{the_lemmas as stmt_lemmas}
use Rattle.pyr_body.specs.Tree.{Expr, Num, Frame, Get, Bin, Put, Statements, End, Then}
use Rattle.pyr_body.specs.Seen.{expr_of, statements_of}
use Rattle.pyr_body.specs.Parts.{BodyParts}
use Rattle.pyr_body.specs.Body.{IsBody, body_of}
use Rattle.pyr_make.specs.Layered.{first_predecessor, second_predecessor, in_order, layered_body, layered_value, layered_reads}
use Rattle.pyr_make.proofs.bodies.layered_body.Goals as goal

place_within : (test : ℕ → Bool) (ns : List ℕ) → position_or_len test ns ≤ length ns
place_within test ns = prefix_len-le-length (λ n. not (test n)) ns

-- a body that puts one value
abbrev putting : ℕ → Expr → BodyParts
putting reads e = record { statements = Then (Put 0 (Num 0) e) End; locals = []; reads = reads; writes = 1 }

first_layer : (reads t : ℕ) → IsBody (putting reads (Bin Add Frame (Num t)))
first_layer reads t = record {
  order = search rules;
  numbered = refl;
  names = search rules;
  depth = omega arith;
  nodes = omega arith;
  loops = omega arith;
  count = omega arith;
  locals = omega arith;
  work = omega arith;
}

later_layer : (reads t x y : ℕ) → x < reads + 1 → y < reads + 1 → IsBody (putting reads (Bin Add (Bin Mul (Get x (Num 0)) (Num 3)) (Bin Add (Get y (Num 0)) (Num t))))
later_layer reads t x y inside also = record {
  order = search rules;
  numbered = refl;
  names = search rules;
  depth = omega arith;
  nodes = omega arith;
  loops = omega arith;
  count = omega arith;
  locals = omega arith;
  work = omega arith;
}

-- the body of a task in the first layer, or behind it
abbrev body_by : Bool → ℕ → BodyParts
body_by first t =
    let reads : List ℕ = cond first [] (in_order (first_predecessor t) (second_predecessor t)) in
    record {
      statements = Then (Put 0 (Num 0) (cond first (Bin Add Frame (Num t))
          (Bin Add (Bin Mul (Get (position_or_len (nat_eq (first_predecessor t)) reads) (Num 0)) (Num 3))
          (Bin Add (Get (position_or_len (nat_eq (second_predecessor t)) reads) (Num 0)) (Num t))))) End;
      locals = [];
      reads = length reads;
      writes = 1;
    }

by_layer : (first : Bool) (t : ℕ) → IsBody (body_by first t)
by_layer true t = first_layer 0 t
by_layer false t =
    let reads : List ℕ = in_order (first_predecessor t) (second_predecessor t) in
    later_layer (length reads) t (position_or_len (nat_eq (first_predecessor t)) reads) (position_or_len (nat_eq (second_predecessor t)) reads)
    (omega (arith, place_within (nat_eq (first_predecessor t)) reads)) (omega (arith, place_within (nat_eq (second_predecessor t)) reads))

put_is : (value : ExprValue) → statements_of (stmts.Put 0 (exprs.Num 0) value ∷ []) ≡ Then (Put 0 (Num 0) (expr_of value)) End
put_is value = search (rules, expr_lemmas, stmt_lemmas)

same_body : (t : ℕ) (statements : List StmtValue) (value : ExprValue) (locals : List Name) (reads : ℕ)
    → statements ≡ stmts.Put 0 (exprs.Num 0) value ∷ [] → expr_of value ≡ layered_value t → locals ≡ [] → reads ≡ length (layered_reads t)
    → body_of statements locals reads 1 ≡ layered_body t
same_body t statements value locals reads put is none count =
    ap (λ (ss : Statements). the_body ss locals reads) (ap statements_of put ∙ put_is value ∙ ap (λ (e : Expr). Then (Put 0 (Num 0) e) End) is)
    ∙ ap (λ (ls : List Name). the_body (Then (Put 0 (Num 0) (layered_value t)) End) ls reads) none
    ∙ ap (λ (n : ℕ). the_body (Then (Put 0 (Num 0) (layered_value t)) End) [] n) count where
      the_body : Statements → List Name → ℕ → BodyParts
      the_body ss ls n = record { statements = ss; locals = ls; reads = n; writes = 1 }

pub new-requires-2 : goal.new-requires-2
new-requires-2 c =
    let same = same_body c.args.task c.in_ok-statements.statements.items c.in_ok-value.value c.new.result.items c.read_count.result c.in_ok-statements.ensures.items c.in_ok-value.ensures c.new.ensures.items c.read_count.ensures in
    subst IsBody (sym same) (by_layer (nat_lt c.args.task 64) c.args.task)

pub returns : goal.returns
returns c =
    c.new-2.ensures ∙ same_body c.args.task c.in_ok-statements.statements.items c.in_ok-value.value c.new.result.items c.read_count.result c.in_ok-statements.ensures.items c.in_ok-value.ensures c.new.ensures.items c.read_count.ensures
