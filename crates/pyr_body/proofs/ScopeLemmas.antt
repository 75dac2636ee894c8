-- Lines in order name only locals that there are.
use Rattle.std.proofs.Common.{◌≡◌, ℕ, ◌+◌, ◌≤◌, max, List, [], ◌∷◌, ◌++◌, length, refl, arith}
use Rattle.pyr_body.specs.Tree.{Expr, Num, Local, Frame, Get, Bin, Sel, Stmt, Set, Put, For, Statements, End, Then}
use Rattle.pyr_body.specs.Scope.{IsScoped, IsStmtScoped, AreScoped}
use Rattle.pyr_body.specs.Parts.{BodyParts}
use Rattle.pyr_body.specs.Body.{IsBody}
use Rattle.pyr_body.specs.Lines.{Line, SetLine, PutLine, ForLine, DoneLine, stmt_lines, lines_of, numbered_after, all_numbered_after, AreInOrder}

-- what names existing locals does so where there are more
pub scoped_more : (e : Expr) (slots n m : ℕ) → n ≤ m → IsScoped slots n e → IsScoped slots m e
scoped_more (Num word) slots n m more s = tt
scoped_more (Local l) slots n m more s = omega (arith, s)
scoped_more Frame slots n m more s = tt
scoped_more (Get slot index) slots n m more s = (s.0, scoped_more index slots n m more s.1)
scoped_more (Bin operator a b) slots n m more s =
    (scoped_more a slots n m more s.0, scoped_more b slots n m more s.1)
scoped_more (Sel c a b) slots n m more s =
    (scoped_more c slots n m more s.0, scoped_more a slots n m more s.1, scoped_more b slots n m more s.2)

-- lines take no number away
pub numbered_more : (line : Line) (n : ℕ) → n ≤ numbered_after line n
numbered_more (SetLine l e) n = omega arith
numbered_more (PutLine output index e) n = omega arith
numbered_more (ForLine l count) n = omega arith
numbered_more DoneLine n = omega arith

pub all_numbered_more : (lines : List Line) (n : ℕ) → n ≤ all_numbered_after lines n
all_numbered_more [] n = omega arith
all_numbered_more (line ∷ rest) n =
    omega (arith, numbered_more line n, all_numbered_more rest (numbered_after line n))

pub all_numbered_after-append : (xs ys : List Line) (n : ℕ) → all_numbered_after (xs ++ ys) n ≡ all_numbered_after ys (all_numbered_after xs n)
all_numbered_after-append [] ys n = refl
all_numbered_after-append (line ∷ rest) ys n = all_numbered_after-append rest ys (numbered_after line n)

module _ (reads writes : ℕ) where
  -- lines in order are so in two parts
  pub AreInOrder-front : (xs ys : List Line) (n : ℕ) → AreInOrder reads writes (xs ++ ys) n → AreInOrder reads writes xs n
  AreInOrder-front [] ys n o = tt
  AreInOrder-front (line ∷ rest) ys n o = (o.0, AreInOrder-front rest ys (numbered_after line n) o.1)

  pub AreInOrder-back : (xs ys : List Line) (n : ℕ) → AreInOrder reads writes (xs ++ ys) n → AreInOrder reads writes ys (all_numbered_after xs n)
  AreInOrder-back [] ys n o = o
  AreInOrder-back (line ∷ rest) ys n o = AreInOrder-back rest ys (numbered_after line n) o.1

  module _ (m : ℕ) where
    mutual
      pub stmt_scoped : (s : Stmt) (n : ℕ) → AreInOrder reads writes (stmt_lines s) n → all_numbered_after (stmt_lines s) n ≤ m → IsStmtScoped reads writes m s
      stmt_scoped (Set l e) n o few =
          (omega (arith, few), scoped_more e (reads + writes) n m (omega (arith, few)) o.0.1)
      stmt_scoped (Put output index e) n o few =
          (o.0.0, scoped_more index (reads + writes) n m few o.0.1, scoped_more e (reads + writes) n m few o.0.2)
      stmt_scoped (For l count turn) n o few =
          let after = max n (l + 1) in
          let more = all_numbered_after-append (lines_of turn) (DoneLine ∷ []) after in (
            omega (arith, few, more, all_numbered_more (lines_of turn) after),
            statements_scoped turn after (AreInOrder-front (lines_of turn) (DoneLine ∷ []) after o.1) (omega (arith, few, more)),
          )

      -- the slots and locals of statements whose lines are in order exist
      pub statements_scoped : (ss : Statements) (n : ℕ) → AreInOrder reads writes (lines_of ss) n → all_numbered_after (lines_of ss) n ≤ m → AreScoped reads writes m ss
      statements_scoped End n o few = tt
      statements_scoped (Then s rest) n o few =
          let after = all_numbered_after (stmt_lines s) n in
          let more = all_numbered_after-append (stmt_lines s) (lines_of rest) n in (
            stmt_scoped s n (AreInOrder-front (stmt_lines s) (lines_of rest) n o) (omega (arith, few, more, all_numbered_more (lines_of rest) after)),
            statements_scoped rest after (AreInOrder-back (stmt_lines s) (lines_of rest) n o) (omega (arith, few, more)),
          )

-- the slots and locals that a body names exist
pub body_scoped : (body : BodyParts) → IsBody body → AreScoped body.reads body.writes (length body.locals) body.statements
body_scoped body is =
    statements_scoped body.reads body.writes (length body.locals) body.statements 0 is.order (omega (arith, is.numbered))
