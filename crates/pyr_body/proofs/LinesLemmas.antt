-- Lines, one after another.
use Rattle.std.proofs.Common.{◌≡◌, ℕ, ◌+◌, ◌≤◌, max, List, [], ◌∷◌, ◌++◌, refl, sym, ap, ◌∙◌, arith, append_assoc}
use Rattle.std.proofs.lemmas.List.{append-nil}
use Rattle.pyr_body.specs.declared.stmt.Stmt.{Stmt as StmtValue}
use Rattle.pyr_body.specs.declared.open_loop.OpenLoop.{OpenLoop}
use Rattle.pyr_body.specs.Seen.{stmt_of, statements_of}
use Rattle.pyr_body.specs.Lines.{Line, ForLine, stmt_lines, lines_of, lines_nodes, lines_depth, lines_count, opened_after, all_opened_after, loops_from, numbered_after, all_numbered_after, AreInOrder}
use Rattle.pyr_body.specs.Kept.{outer_lines, lines_in}

pub lines_nodes-append : (xs ys : List Line) → lines_nodes (xs ++ ys) ≡ lines_nodes xs + lines_nodes ys
lines_nodes-append [] ys = omega arith
lines_nodes-append (x ∷ xs) ys = omega (arith, lines_nodes-append xs ys)

pub lines_depth-append : (xs ys : List Line) → lines_depth (xs ++ ys) ≡ max (lines_depth xs) (lines_depth ys)
lines_depth-append [] ys = omega arith
lines_depth-append (x ∷ xs) ys = omega (arith, lines_depth-append xs ys)

pub lines_count-append : (xs ys : List Line) → lines_count (xs ++ ys) ≡ max (lines_count xs) (lines_count ys)
lines_count-append [] ys = omega arith
lines_count-append (x ∷ xs) ys = omega (arith, lines_count-append xs ys)

pub all_opened_after-append : (xs ys : List Line) (k : ℕ) → all_opened_after (xs ++ ys) k ≡ all_opened_after ys (all_opened_after xs k)
all_opened_after-append [] ys k = refl
all_opened_after-append (x ∷ xs) ys k = all_opened_after-append xs ys (opened_after x k)

pub loops_from_least : (xs : List Line) (k : ℕ) → k ≤ loops_from xs k
loops_from_least [] k = omega arith
loops_from_least (x ∷ xs) k = omega arith

pub loops_from-append : (xs ys : List Line) (k : ℕ) → loops_from (xs ++ ys) k ≡ max (loops_from xs k) (loops_from ys (all_opened_after xs k))
loops_from-append [] ys k = omega (arith, loops_from_least ys k)
loops_from-append (x ∷ xs) ys k = omega (arith, loops_from-append xs ys (opened_after x k))

pub AreInOrder-append : (reads writes : ℕ) (xs ys : List Line) (n : ℕ) → AreInOrder reads writes xs n → AreInOrder reads writes ys (all_numbered_after xs n) → AreInOrder reads writes (xs ++ ys) n
AreInOrder-append reads writes [] ys n o p = p
AreInOrder-append reads writes (x ∷ xs) ys n o p = (o.0, AreInOrder-append reads writes xs ys (numbered_after x n) o.1 p)

-- a statement more
pub lines_of-append : (xs : List StmtValue) (s : StmtValue) → lines_of (statements_of (xs ++ s ∷ [])) ≡ lines_of (statements_of xs) ++ stmt_lines (stmt_of s)
lines_of-append [] s = append-nil (stmt_lines (stmt_of s))
lines_of-append (x ∷ xs) s =
    ap (λ l. stmt_lines (stmt_of x) ++ l) (lines_of-append xs s)
    ∙ sym (append_assoc (stmt_lines (stmt_of x)) (lines_of (statements_of xs)) (stmt_lines (stmt_of s)))

pub lines_in-append : (outer : List OpenLoop) (xs : List StmtValue) (s : StmtValue) → lines_in outer (xs ++ s ∷ []) ≡ lines_in outer xs ++ stmt_lines (stmt_of s)
lines_in-append outer xs s =
    ap (λ l. outer_lines outer ++ l) (lines_of-append xs s)
    ∙ sym (append_assoc (outer_lines outer) (lines_of (statements_of xs)) (stmt_lines (stmt_of s)))

-- a loop more that is open
pub outer_lines-append : (os : List OpenLoop) (o : OpenLoop) → outer_lines (os ++ o ∷ []) ≡ outer_lines os ++ (lines_of (statements_of o.before) ++ (ForLine o.local o.count ∷ []))
outer_lines-append [] o = refl
outer_lines-append (p ∷ os) o =
    let ls : List Line = lines_of (statements_of p.before) in
    ap (λ l. ls ++ (ForLine p.local p.count ∷ l)) (outer_lines-append os o)
    ∙ sym (append_assoc ls (ForLine p.local p.count ∷ outer_lines os) (lines_of (statements_of o.before) ++ (ForLine o.local o.count ∷ [])))
