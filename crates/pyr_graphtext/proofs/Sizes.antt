-- The nodes and the work of lines as they are written are those of the body whose lines they are.
use Rattle.std.proofs.Common.{◌≡◌, ℕ, ◌+◌, ◌*◌, List, [], ◌∷◌, ◌++◌, length, drop, refl, sym, ap, ◌∙◌, arith}
use Rattle.std.proofs.Common.{length-drop}
use Rattle.pyr_num.specs.declared.name.Name.{Name}
use Rattle.pyr_body.specs.Tree.{Expr, Stmt, Statements, End, Then}
use Rattle.pyr_body.specs.Tree as tree
use Rattle.pyr_body.specs.Size.{expr_nodes, stmt_work, statements_work, statements_nodes}
use Rattle.pyr_body.specs.Lines.{Line, SetLine, PutLine, ForLine, DoneLine, stmt_lines, lines_of, line_nodes, lines_nodes, all_opened_after, loops_open}
use Rattle.pyr_body.specs.Parts.{BodyParts}
use Rattle.pyr_body.specs.Written.{WrittenExpr, Num, Local, Frame, Get, Bin, Sel, WrittenLine, Set, Put, For, Done, written_nodes, written_line_nodes}
use Rattle.pyr_body.proofs.LinesLemmas.{lines_nodes-append}
use Rattle.pyr_body.proofs.TreeLines.{statements_nodes-lines}
use Rattle.pyr_graphtext.specs.Statements.{open_counts, nodes_of, product, line_work, work_of, numbered, numbered_line, numbered_lines, locals_of, WrittenBody, IsBodyOf}

-- the operations of a numbered line each time it runs
abbrev numbered_work : Line → ℕ
numbered_work (SetLine l e) = 1 + expr_nodes e
numbered_work (PutLine output index e) = 1 + expr_nodes index + expr_nodes e
numbered_work (ForLine l count) = 1 + count
numbered_work DoneLine = 0

-- the counts of the loops that are open behind a line, and behind lines
abbrev counts_after : Line → List ℕ → List ℕ
counts_after (SetLine l e) counts = counts
counts_after (PutLine output index e) counts = counts
counts_after (ForLine l count) counts = count ∷ counts
counts_after DoneLine counts = drop 1 counts

abbrev all_counts_after : List Line → List ℕ → List ℕ
all_counts_after [] counts = counts
all_counts_after (line ∷ rest) counts = all_counts_after rest (counts_after line counts)

-- the operations of one run of lines that stand within loops of these counts
abbrev work_from : List ℕ → List Line → ℕ
work_from counts [] = 0
work_from counts (line ∷ rest) =
    product counts * numbered_work line + work_from (counts_after line counts) rest

all_counts_after-append : (xs ys : List Line) (counts : List ℕ) → all_counts_after (xs ++ ys) counts ≡ all_counts_after ys (all_counts_after xs counts)
all_counts_after-append [] ys counts = refl
all_counts_after-append (x ∷ xs) ys counts = all_counts_after-append xs ys (counts_after x counts)

work_from-append : (xs ys : List Line) (counts : List ℕ) → work_from counts (xs ++ ys) ≡ work_from counts xs + work_from (all_counts_after xs counts) ys
work_from-append [] ys counts = omega arith
work_from-append (x ∷ xs) ys counts = omega (arith, work_from-append xs ys (counts_after x counts))

-- the lines of a tree leave the loops open that were
mutual
  stmt_counts : (s : Stmt) (counts : List ℕ) → all_counts_after (stmt_lines s) counts ≡ counts
  stmt_counts (tree.Set l e) counts = refl
  stmt_counts (tree.Put output index e) counts = refl
  stmt_counts (tree.For l count turn) counts =
      all_counts_after-append (lines_of turn) (DoneLine ∷ []) (count ∷ counts)
      ∙ ap (all_counts_after (DoneLine ∷ [])) (statements_counts turn (count ∷ counts))

  statements_counts : (ss : Statements) (counts : List ℕ) → all_counts_after (lines_of ss) counts ≡ counts
  statements_counts End counts = refl
  statements_counts (Then s rest) counts =
      all_counts_after-append (stmt_lines s) (lines_of rest) counts
      ∙ ap (all_counts_after (lines_of rest)) (stmt_counts s counts)
      ∙ statements_counts rest counts

loop_product : (p c w : ℕ) → p * (1 + c) + (c * p) * w ≡ p * (1 + c * (1 + w))
loop_product p c w = omega arith

plus_product : (p a b : ℕ) → p * a + p * b ≡ p * (a + b)
plus_product p a b = omega arith

-- the work of the lines of a tree is its own, as often as the loops around it turn
mutual
  stmt_works : (s : Stmt) (counts : List ℕ) → work_from counts (stmt_lines s) ≡ product counts * stmt_work s
  stmt_works (tree.Set l e) counts = omega arith
  stmt_works (tree.Put output index e) counts = omega arith
  stmt_works (tree.For l count turn) counts =
      let inner = statements_works turn (count ∷ counts) in
      let split = work_from-append (lines_of turn) (DoneLine ∷ []) (count ∷ counts) in
      let done : work_from (all_counts_after (lines_of turn) (count ∷ counts)) (DoneLine ∷ []) ≡ work_from (count ∷ counts) (DoneLine ∷ []) = ap (λ ks. work_from ks (DoneLine ∷ [])) (statements_counts turn (count ∷ counts)) in
      omega (arith, inner, split, done, loop_product (product counts) count (statements_work turn))

  statements_works : (ss : Statements) (counts : List ℕ) → work_from counts (lines_of ss) ≡ product counts * statements_work ss
  statements_works End counts = omega arith
  statements_works (Then s rest) counts =
      let split = work_from-append (stmt_lines s) (lines_of rest) counts in
      let there : work_from (all_counts_after (stmt_lines s) counts) (lines_of rest) ≡ work_from counts (lines_of rest) = ap (λ ks. work_from ks (lines_of rest)) (stmt_counts s counts) in
      omega (arith, split, there, stmt_works s counts, statements_works rest counts, plus_product (product counts) (stmt_work s) (statements_work rest))

-- an expression has as many nodes with numbers as with names
numbered_nodes : (locals slots : List Name) (e : WrittenExpr) → expr_nodes (numbered locals slots e) ≡ written_nodes e
numbered_nodes locals slots (Num word) = refl
numbered_nodes locals slots (Local name) = refl
numbered_nodes locals slots Frame = refl
numbered_nodes locals slots (Get name index) = omega (arith, numbered_nodes locals slots index)
numbered_nodes locals slots (Bin operator a b) =
    omega (arith, numbered_nodes locals slots a, numbered_nodes locals slots b)
numbered_nodes locals slots (Sel c a b) =
    omega (arith, numbered_nodes locals slots c, numbered_nodes locals slots a, numbered_nodes locals slots b)

-- loops open, counted
counted_open : (ls : List Line) (counts : List ℕ) → length (all_counts_after ls counts) ≡ all_opened_after ls (length counts)
counted_open [] counts = refl
counted_open (SetLine l e ∷ ls) counts = counted_open ls counts
counted_open (PutLine output index e ∷ ls) counts = counted_open ls counts
counted_open (ForLine l count ∷ ls) counts =
    counted_open ls (count ∷ counts) ∙ ap (all_opened_after ls) (omega arith)
counted_open (DoneLine ∷ ls) counts =
    counted_open ls (drop 1 counts) ∙ ap (all_opened_after ls) (length-drop 1 counts)

module _ (reads writes : List Name) where
  line_works : (older : List WrittenLine) (line : WrittenLine) → numbered_work (numbered_line reads writes older line) ≡ line_work line
  line_works older (Set name e) = omega (arith, numbered_nodes (locals_of older) (reads ++ writes) e)
  line_works older (Put name index e) =
      omega (arith, numbered_nodes (locals_of older) (reads ++ writes) index, numbered_nodes (locals_of older) (reads ++ writes) e)
  line_works older (For name count) = refl
  line_works older Done = refl

  line_has_nodes : (older : List WrittenLine) (line : WrittenLine) → line_nodes (numbered_line reads writes older line) ≡ written_line_nodes line
  line_has_nodes older (Set name e) = omega (arith, numbered_nodes (locals_of older) (reads ++ writes) e)
  line_has_nodes older (Put name index e) =
      omega (arith, numbered_nodes (locals_of older) (reads ++ writes) index, numbered_nodes (locals_of older) (reads ++ writes) e)
  line_has_nodes older (For name count) = refl
  line_has_nodes older Done = refl

  counts_behind : (older : List WrittenLine) (line : WrittenLine) → counts_after (numbered_line reads writes older line) (open_counts older) ≡ open_counts (line ∷ older)
  counts_behind older (Set name e) = refl
  counts_behind older (Put name index e) = refl
  counts_behind older (For name count) = refl
  counts_behind older Done = refl

  -- the counts of the open loops
  pub counts_of-numbered : (lines : List WrittenLine) → all_counts_after (numbered_lines reads writes lines) [] ≡ open_counts lines
  counts_of-numbered [] = refl
  counts_of-numbered (line ∷ older) =
      all_counts_after-append (numbered_lines reads writes older) (numbered_line reads writes older line ∷ []) []
      ∙ ap (counts_after (numbered_line reads writes older line)) (counts_of-numbered older)
      ∙ counts_behind older line

  -- as many loops are open behind lines as behind their numbered lines
  pub open_counts-loops_open : (lines : List WrittenLine) → length (open_counts lines) ≡ loops_open (numbered_lines reads writes lines)
  open_counts-loops_open lines =
      ap length (sym (counts_of-numbered lines)) ∙ counted_open (numbered_lines reads writes lines) []

  -- lines have as many nodes as their numbered lines
  pub nodes_of-numbered : (lines : List WrittenLine) → nodes_of lines ≡ lines_nodes (numbered_lines reads writes lines)
  nodes_of-numbered [] = refl
  nodes_of-numbered (line ∷ older) =
      omega (arith, nodes_of-numbered older, line_has_nodes older line, lines_nodes-append (numbered_lines reads writes older) (numbered_line reads writes older line ∷ []))

  works_numbered : (lines : List WrittenLine) → work_of lines ≡ work_from [] (numbered_lines reads writes lines)
  works_numbered [] = refl
  works_numbered (line ∷ older) =
      let split = work_from-append (numbered_lines reads writes older) (numbered_line reads writes older line ∷ []) [] in
      let counts : product (all_counts_after (numbered_lines reads writes older) []) ≡ product (open_counts older) = ap product (counts_of-numbered older) in
      let last : product (all_counts_after (numbered_lines reads writes older) []) * numbered_work (numbered_line reads writes older line) ≡ product (open_counts older) * line_work line = λ i. counts i * line_works older line i in
      omega (arith, works_numbered older, split, last)

  -- lines do as much work as the statements whose lines they are
  pub work_of-statements : (lines : List WrittenLine) (ss : Statements) → lines_of ss ≡ numbered_lines reads writes lines → work_of lines ≡ statements_work ss
  work_of-statements lines ss e =
      let same : work_from [] (lines_of ss) ≡ work_from [] (numbered_lines reads writes lines) = ap (work_from []) e in
      omega (arith, works_numbered lines, same, statements_works ss [])

  -- and have as many nodes
  pub nodes_of-statements : (lines : List WrittenLine) (ss : Statements) → lines_of ss ≡ numbered_lines reads writes lines → nodes_of lines ≡ statements_nodes ss
  nodes_of-statements lines ss e =
      nodes_of-numbered lines ∙ ap lines_nodes (sym e) ∙ statements_nodes-lines ss

-- the nodes of a body as it is written are those of the body
pub nodes_of-body : (w : WrittenBody) (b : BodyParts) → IsBodyOf w b → nodes_of w.lines ≡ statements_nodes b.statements
nodes_of-body w b is = nodes_of-statements w.reads w.writes w.lines b.statements is.lines

-- and so is its work
pub work_of-body : (w : WrittenBody) (b : BodyParts) → IsBodyOf w b → work_of w.lines ≡ statements_work b.statements
work_of-body w b is = work_of-statements w.reads w.writes w.lines b.statements is.lines
