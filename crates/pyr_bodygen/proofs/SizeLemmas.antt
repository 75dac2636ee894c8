-- The code of a body is as large as the body, and makes as many steps as the body makes operations.
use Rattle.std.proofs.Common.{◌≡◌, ℕ, ◌+◌, ◌*◌, max, List, [], ◌∷◌, ◌++◌, refl, ap, ◌∙◌, arith}
use Rattle.pyr_body.specs.Tree.{Expr, Num, Local, Frame, Get, Bin, Sel, Stmt, Set, Put, For, Statements, End, Then}
use Rattle.pyr_body.specs.Parts.{BodyParts}
use Rattle.pyr_body.specs.Body.{IsBody}
use Rattle.pyr_body.specs.Size.{expr_nodes, stmt_nodes, stmt_loops, stmt_count, stmt_work, statements_nodes, statements_loops, statements_count, statements_work}
use Rattle.pyr_code.specs.Tree.{Op, Push, Load, Store, Frame as FrameOp, Get as GetOp, Put as PutOp, Bin as BinOp, Sel as SelOp}
use Rattle.pyr_code.specs.Seen.{code_from}
use Rattle.pyr_code.specs.Size.{op_nodes, op_loops, op_count, op_work, code_nodes, code_loops, code_count, code_work, IsWithinLimits}
use Rattle.pyr_bodygen.specs.Generated.{expr_ops, stmt_ops, statements_ops, generated}
use Rattle.pyr_bodygen.specs.Agreement.{shape_of}

-- how many nodes ops have, how many loops stand in one another, the greatest count and the work
pub record AreSized (ops : List Op) (n l k w : ℕ) : Type 0 where
  pub nodes : code_nodes (code_from ops) ≡ n
  pub loops : code_loops (code_from ops) ≡ l
  pub count : code_count (code_from ops) ≡ k
  pub work : code_work (code_from ops) ≡ w

-- an op that is no loop
one : (op : Op) → op_nodes op ≡ 1 → op_loops op ≡ 0 → op_count op ≡ 0 → op_work op ≡ 1 → AreSized (op ∷ []) 1 0 0 1
one op n l k w = record { nodes = omega arith; loops = omega arith; count = omega arith; work = omega arith }

-- ops in two parts
both : (xs ys : List Op) {n l k w n' l' k' w' : ℕ} → AreSized xs n l k w → AreSized ys n' l' k' w' → AreSized (xs ++ ys) (n + n') (max l l') (max k k') (w + w')
both [] ys a b = record { nodes = omega (arith, a.nodes, b.nodes); loops = omega (arith, a.loops, b.loops); count = omega (arith, a.count, b.count); work = omega (arith, a.work, b.work) }
both (op ∷ xs) ys a b =
    let rest = both xs ys (record { nodes = refl; loops = refl; count = refl; work = refl }) b in
    record {
      nodes = omega (arith, a.nodes, rest.nodes);
      loops = omega (arith, a.loops, rest.loops);
      count = omega (arith, a.count, rest.count);
      work = omega (arith, a.work, rest.work);
    }

-- the same sizes, told in another way
told_as : (ops : List Op) {n l k w : ℕ} (n' l' k' w' : ℕ) → AreSized ops n l k w → n ≡ n' → l ≡ l' → k ≡ k' → w ≡ w' → AreSized ops n' l' k' w'
told_as ops n' l' k' w' sized en el ek ew =
    record { nodes = sized.nodes ∙ en; loops = sized.loops ∙ el; count = sized.count ∙ ek; work = sized.work ∙ ew }

-- the ops of an expression, one for each node
pub expr_sized : (e : Expr) → AreSized (expr_ops e) (expr_nodes e) 0 0 (expr_nodes e)
expr_sized (Num word) = one (Push word) refl refl refl refl
expr_sized (Local l) = one (Load l) refl refl refl refl
expr_sized Frame = one FrameOp refl refl refl refl
expr_sized (Get slot index) =
    told_as _ _ _ _ _ (both (expr_ops index) (GetOp slot ∷ []) (expr_sized index) (one (GetOp slot) refl refl refl refl))
    (omega arith) refl refl (omega arith)
expr_sized (Bin operator a b) =
    told_as _ _ _ _ _
    (both (expr_ops a) (expr_ops b ++ BinOp operator ∷ []) (expr_sized a)
    (both (expr_ops b) (BinOp operator ∷ []) (expr_sized b) (one (BinOp operator) refl refl refl refl)))
    (omega arith) refl refl (omega arith)
expr_sized (Sel c a b) =
    told_as _ _ _ _ _
    (both (expr_ops c) (expr_ops a ++ (expr_ops b ++ SelOp ∷ [])) (expr_sized c)
    (both (expr_ops a) (expr_ops b ++ SelOp ∷ []) (expr_sized a)
    (both (expr_ops b) (SelOp ∷ []) (expr_sized b) (one SelOp refl refl refl refl))))
    (omega arith) refl refl (omega arith)

mutual
  -- the ops of a statement
  pub stmt_sized : (s : Stmt) → AreSized (stmt_ops s) (stmt_nodes s) (stmt_loops s) (stmt_count s) (stmt_work s)
  stmt_sized (Set l e) =
      told_as _ _ _ _ _ (both (expr_ops e) (Store l ∷ []) (expr_sized e) (one (Store l) refl refl refl refl))
      (omega arith) refl refl (omega arith)
  stmt_sized (Put output index e) =
      told_as _ _ _ _ _
      (both (expr_ops index) (expr_ops e ++ PutOp output ∷ []) (expr_sized index)
      (both (expr_ops e) (PutOp output ∷ []) (expr_sized e) (one (PutOp output) refl refl refl refl)))
      (omega arith) refl refl (omega arith)
  stmt_sized (For l count turn) =
      let sized = statements_sized turn in
      let turns : 1 + count * (1 + code_work (generated turn)) ≡ 1 + count * (1 + statements_work turn) = ap (λ w. 1 + count * (1 + w)) sized.work in
      record {
        nodes = omega (arith, sized.nodes);
        loops = omega (arith, sized.loops);
        count = omega (arith, sized.count);
        work = omega (arith, turns);
      }

  -- the ops of statements
  pub statements_sized : (ss : Statements) → AreSized (statements_ops ss) (statements_nodes ss) (statements_loops ss) (statements_count ss) (statements_work ss)
  statements_sized End = record { nodes = refl; loops = refl; count = refl; work = refl }
  statements_sized (Then s rest) = both (stmt_ops s) (statements_ops rest) (stmt_sized s) (statements_sized rest)

-- one op for each expression and statement
pub same_nodes : (ss : Statements) → code_nodes (generated ss) ≡ statements_nodes ss
same_nodes ss = (statements_sized ss).nodes

-- as many steps as operations
pub same_work : (ss : Statements) → code_work (generated ss) ≡ statements_work ss
same_work ss = (statements_sized ss).work

-- the code of a body is within the limits
pub within_limits : (body : BodyParts) → IsBody body → IsWithinLimits (shape_of body) (generated body.statements)
within_limits body is =
    let sized = statements_sized body.statements in
    record {
      nodes = omega (arith, sized.nodes, is.nodes);
      loops = omega (arith, sized.loops, is.loops);
      count = omega (arith, sized.count, is.count);
      locals = is.locals;
      work = omega (arith, sized.work, is.work);
    }
