-- The code of a body is well-formed.
use Rattle.std.proofs.Common.{◌≡◌, ℕ, ◌+◌, ◌*◌, ◌<◌, ◌≤◌, List, [], ◌∷◌, ◌++◌, length, refl, sym, subst, arith}
use Rattle.pyr_num.specs.declared.limits.TheConstants.Limits.{DEPTH}
use Rattle.pyr_body.specs.Tree.{Expr, Num, Local, Frame, Get, Bin, Sel, Stmt, Set, Put, For, Statements, End, Then}
use Rattle.pyr_body.specs.Scope.{IsScoped, IsStmtScoped, AreScoped}
use Rattle.pyr_body.specs.Size.{expr_brackets, stmt_depth, statements_depth}
use Rattle.pyr_body.specs.Parts.{BodyParts}
use Rattle.pyr_body.specs.Body.{IsBody}
use Rattle.pyr_body.proofs.ScopeLemmas.{body_scoped}
use Rattle.pyr_code.specs.declared.stack.TheConstants.{MAX_HEIGHT}
use Rattle.pyr_code.specs.Tree.{Op, Store, Get as GetOp, Put as PutOp, Bin as BinOp, Sel as SelOp}
use Rattle.pyr_code.specs.Seen.{code_from}
use Rattle.pyr_code.specs.Height.{height_after, height_after_op, greatest_height}
use Rattle.pyr_code.specs.WellFormed.{IsFine, IsWellFormed}
use Rattle.pyr_code.proofs.HeightLemmas.{greatest_height-low}
use Rattle.pyr_bodygen.specs.Generated.{expr_ops, stmt_ops, statements_ops, generated}
use Rattle.pyr_bodygen.specs.Agreement.{shape_of}

module _ (reads writes locals : ℕ) where
  -- ops are fine at a height, and leave another
  pub record Lead (ops : List Op) (h h' : ℕ) : Type 0 where
    pub fine : IsFine reads writes locals (code_from ops) h
    pub after : height_after (code_from ops) h ≡ h'

  lead-append : (xs ys : List Op) {h between h' : ℕ} → Lead xs h between → Lead ys between h' → Lead (xs ++ ys) h h'
  lead-append [] ys {h} {between} {h'} a b = subst (λ n. Lead ys n h') (sym a.after) b
  lead-append (op ∷ xs) ys {h} {between} {h'} a b =
      let first : Lead xs (height_after_op op h) between = record { fine = a.fine.1; after = a.after } in
      let rest = lead-append xs ys first b in
      record { fine = (a.fine.0, rest.fine); after = rest.after }

  -- The ops of an expression leave one word more. They hold as many words as two for each open
  -- bracket and one: where the last operand of a select is evaluated, two words lie below it.
  pub expr_leads : (e : Expr) (h : ℕ) → IsScoped (reads + writes) locals e → h + 2 * expr_brackets e < MAX_HEIGHT → Lead (expr_ops e) h (h + 1)
  expr_leads (Num word) h s low = record { fine = (omega (arith, low), tt); after = omega arith }
  expr_leads (Local l) h s low = record { fine = ((s, omega (arith, low)), tt); after = omega arith }
  expr_leads Frame h s low = record { fine = (omega (arith, low), tt); after = omega arith }
  expr_leads (Get slot index) h s low =
      lead-append (expr_ops index) (GetOp slot ∷ []) (expr_leads index h s.1 (omega (arith, low)))
      (record { fine = ((s.0, omega arith), tt); after = omega arith })
  expr_leads (Bin operator a b) h s low =
      lead-append (expr_ops a) (expr_ops b ++ BinOp operator ∷ []) (expr_leads a h s.0 (omega (arith, low)))
      (lead-append (expr_ops b) (BinOp operator ∷ []) (expr_leads b (h + 1) s.1 (omega (arith, low)))
      (record { fine = (omega arith, tt); after = omega arith }))
  expr_leads (Sel c a b) h s low =
      lead-append (expr_ops c) (expr_ops a ++ (expr_ops b ++ SelOp ∷ [])) (expr_leads c h s.0 (omega (arith, low)))
      (lead-append (expr_ops a) (expr_ops b ++ SelOp ∷ []) (expr_leads a (h + 1) s.1 (omega (arith, low)))
      (lead-append (expr_ops b) (SelOp ∷ []) (expr_leads b (h + 1 + 1) s.2 (omega (arith, low)))
      (record { fine = (omega arith, tt); after = omega arith })))

  mutual
    -- the ops of a statement start and end at an empty stack
    pub stmt_leads : (s : Stmt) → IsStmtScoped reads writes locals s → stmt_depth s ≤ DEPTH → Lead (stmt_ops s) 0 0
    stmt_leads (Set l e) s shallow =
        lead-append (expr_ops e) (Store l ∷ []) (expr_leads e 0 s.1 (omega (arith, shallow)))
        (record { fine = ((s.0, omega arith), tt); after = refl })
    stmt_leads (Put output index e) s shallow =
        lead-append (expr_ops index) (expr_ops e ++ PutOp output ∷ []) (expr_leads index 0 s.1 (omega (arith, shallow)))
        (lead-append (expr_ops e) (PutOp output ∷ []) (expr_leads e 1 s.2 (omega (arith, shallow)))
        (record { fine = ((s.0, omega arith), tt); after = refl }))
    stmt_leads (For l count turn) s shallow =
        let turns = statements_lead turn s.1 shallow in
        record { fine = ((s.0, turns.fine, turns.after), tt); after = refl }

    pub statements_lead : (ss : Statements) → AreScoped reads writes locals ss → statements_depth ss ≤ DEPTH → Lead (statements_ops ss) 0 0
    statements_lead End s shallow = record { fine = tt; after = refl }
    statements_lead (Then s rest) scoped shallow =
        lead-append (stmt_ops s) (statements_ops rest)
        (stmt_leads s scoped.0 (omega (arith, shallow)))
        (statements_lead rest scoped.1 (omega (arith, shallow)))

-- the code of a body is well-formed
pub well_formed : (body : BodyParts) → IsBody body → IsWellFormed (shape_of body) (generated body.statements)
well_formed body is =
    let lead = statements_lead body.reads body.writes (length body.locals) body.statements (body_scoped body is) is.depth in
    record { fine = lead.fine; ends_empty = lead.after }

-- its stack never holds more words than there is room for
pub low_height : (body : BodyParts) → IsBody body → greatest_height (generated body.statements) 0 ≤ MAX_HEIGHT
low_height body is =
    greatest_height-low body.reads body.writes (length body.locals) (generated body.statements) 0 (omega arith) (well_formed body is).fine
