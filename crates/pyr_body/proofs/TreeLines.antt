-- The lines of a tree: they are its own alone, and tell how large it is.
use Rattle.std.proofs.Common.{◌≡◌, ℕ, ◌+◌, List, [], ◌∷◌, ◌++◌, refl, sym, ap, subst, ◌∙◌, arith, append_assoc}
use Rattle.std.specs.Prelude.{⊤}
use Rattle.std.proofs.lemmas.List.{append-nil}
use Rattle.pyr_body.specs.Tree.{Stmt, Set, Put, For, Statements, End, Then}
use Rattle.pyr_body.specs.Size.{stmt_nodes, statements_nodes, stmt_depth, statements_depth, stmt_loops, statements_loops, stmt_count, statements_count}
use Rattle.pyr_body.specs.Lines.{Line, SetLine, PutLine, ForLine, DoneLine, stmt_lines, lines_of, lines_nodes, lines_depth, lines_count, all_opened_after, loops_from}
use Rattle.pyr_body.specs.Laws.{LinesAreOneTree}
use Rattle.pyr_body.proofs.LinesLemmas.{lines_nodes-append, lines_depth-append, lines_count-append, all_opened_after-append, loops_from-append}

mutual
  stmt_nodes-lines : (s : Stmt) → lines_nodes (stmt_lines s) ≡ stmt_nodes s
  stmt_nodes-lines (Set l e) = omega arith
  stmt_nodes-lines (Put output index e) = omega arith
  stmt_nodes-lines (For l count turn) =
      omega (arith, lines_nodes-append (lines_of turn) (DoneLine ∷ []), statements_nodes-lines turn)

  pub statements_nodes-lines : (ss : Statements) → lines_nodes (lines_of ss) ≡ statements_nodes ss
  statements_nodes-lines End = refl
  statements_nodes-lines (Then s rest) =
      omega (arith, lines_nodes-append (stmt_lines s) (lines_of rest), stmt_nodes-lines s, statements_nodes-lines rest)

mutual
  stmt_depth-lines : (s : Stmt) → lines_depth (stmt_lines s) ≡ stmt_depth s
  stmt_depth-lines (Set l e) = omega arith
  stmt_depth-lines (Put output index e) = omega arith
  stmt_depth-lines (For l count turn) =
      omega (arith, lines_depth-append (lines_of turn) (DoneLine ∷ []), statements_depth-lines turn)

  pub statements_depth-lines : (ss : Statements) → lines_depth (lines_of ss) ≡ statements_depth ss
  statements_depth-lines End = refl
  statements_depth-lines (Then s rest) =
      omega (arith, lines_depth-append (stmt_lines s) (lines_of rest), stmt_depth-lines s, statements_depth-lines rest)

mutual
  stmt_count-lines : (s : Stmt) → lines_count (stmt_lines s) ≡ stmt_count s
  stmt_count-lines (Set l e) = omega arith
  stmt_count-lines (Put output index e) = omega arith
  stmt_count-lines (For l count turn) =
      omega (arith, lines_count-append (lines_of turn) (DoneLine ∷ []), statements_count-lines turn)

  pub statements_count-lines : (ss : Statements) → lines_count (lines_of ss) ≡ statements_count ss
  statements_count-lines End = refl
  statements_count-lines (Then s rest) =
      omega (arith, lines_count-append (stmt_lines s) (lines_of rest), stmt_count-lines s, statements_count-lines rest)

-- the lines of a tree leave as many loops open as were
mutual
  stmt_opened : (s : Stmt) (k : ℕ) → all_opened_after (stmt_lines s) k ≡ k
  stmt_opened (Set l e) k = refl
  stmt_opened (Put output index e) k = refl
  stmt_opened (For l count turn) k =
      let inner = statements_opened turn (k + 1) in
      omega (arith, all_opened_after-append (lines_of turn) (DoneLine ∷ []) (k + 1), inner)

  pub statements_opened : (ss : Statements) (k : ℕ) → all_opened_after (lines_of ss) k ≡ k
  statements_opened End k = refl
  statements_opened (Then s rest) k =
      all_opened_after-append (stmt_lines s) (lines_of rest) k
      ∙ ap (all_opened_after (lines_of rest)) (stmt_opened s k)
      ∙ statements_opened rest k

mutual
  stmt_loops-lines : (s : Stmt) (k : ℕ) → loops_from (stmt_lines s) k ≡ k + stmt_loops s
  stmt_loops-lines (Set l e) k = omega arith
  stmt_loops-lines (Put output index e) k = omega arith
  stmt_loops-lines (For l count turn) k =
      let last : loops_from (DoneLine ∷ []) (all_opened_after (lines_of turn) (k + 1)) ≡ loops_from (DoneLine ∷ []) (k + 1) = ap (loops_from (DoneLine ∷ [])) (statements_opened turn (k + 1)) in
      omega (arith, loops_from-append (lines_of turn) (DoneLine ∷ []) (k + 1), last, statements_loops-lines turn (k + 1))

  pub statements_loops-lines : (ss : Statements) (k : ℕ) → loops_from (lines_of ss) k ≡ k + statements_loops ss
  statements_loops-lines End k = omega arith
  statements_loops-lines (Then s rest) k =
      let last : loops_from (lines_of rest) (all_opened_after (stmt_lines s) k) ≡ loops_from (lines_of rest) k = ap (loops_from (lines_of rest)) (stmt_opened s k) in
      omega (arith, loops_from-append (stmt_lines s) (lines_of rest) k, last, stmt_loops-lines s k, statements_loops-lines rest k)

-- what may follow the lines of a tree: nothing, or a `done`
abbrev IsClosed : List Line → Type 0
IsClosed [] = ⊤
IsClosed (SetLine l e ∷ xs) = ⊥
IsClosed (PutLine o i e ∷ xs) = ⊥
IsClosed (ForLine l n ∷ xs) = ⊥
IsClosed (DoneLine ∷ xs) = ⊤

begins_open : (s : Stmt) (xs x : List Line) → IsClosed x → x ≡ stmt_lines s ++ xs → ⊥
begins_open (Set l e) xs x p h = subst IsClosed h p
begins_open (Put o i e) xs x p h = subst IsClosed h p
begins_open (For l n turn) xs x p h = subst IsClosed h p

mutual
  stmt_unique : (s t : Stmt) (x y : List Line) → stmt_lines s ++ x ≡ stmt_lines t ++ y → (s ≡ t) × (x ≡ y)
  stmt_unique (Set l a) (Set k b) x y e = (let p : l ≡ k = cc in let q : a ≡ b = cc in cc, cc)
  stmt_unique (Put o i a) (Put p j b) x y e = (let q : o ≡ p = cc in let r : i ≡ j = cc in let s : a ≡ b = cc in cc, cc)
  stmt_unique (For l n turn) (For k m turn') x y e =
      let p : l ≡ k = cc in
      let q : n ≡ m = cc in
      let inner : (lines_of turn ++ (DoneLine ∷ [])) ++ x ≡ (lines_of turn' ++ (DoneLine ∷ [])) ++ y = cc in
      let regrouped : lines_of turn ++ (DoneLine ∷ x) ≡ lines_of turn' ++ (DoneLine ∷ y) = sym (append_assoc (lines_of turn) (DoneLine ∷ []) x) ∙ inner ∙ append_assoc (lines_of turn') (DoneLine ∷ []) y in
      let r = statements_unique turn turn' (DoneLine ∷ x) (DoneLine ∷ y) tt tt regrouped in
      let s = r.0 in
      let t = r.1 in
      (cc, cc)
  stmt_unique (Set l a) (Put p j b) x y e = absurd cc
  stmt_unique (Set l a) (For k m turn') x y e = absurd cc
  stmt_unique (Put o i a) (Set k b) x y e = absurd cc
  stmt_unique (Put o i a) (For k m turn') x y e = absurd cc
  stmt_unique (For l n turn) (Set k b) x y e = absurd cc
  stmt_unique (For l n turn) (Put p j b) x y e = absurd cc

  statements_unique : (ss us : Statements) (x y : List Line) → IsClosed x → IsClosed y → lines_of ss ++ x ≡ lines_of us ++ y → (ss ≡ us) × (x ≡ y)
  statements_unique End End x y p q e = (refl, e)
  statements_unique End (Then t rest) x y p q e = absurd (begins_open t (lines_of rest ++ y) x p (e ∙ append_assoc (stmt_lines t) (lines_of rest) y))
  statements_unique (Then s rest) End x y p q e = absurd (begins_open s (lines_of rest ++ x) y q (sym e ∙ append_assoc (stmt_lines s) (lines_of rest) x))
  statements_unique (Then s rest) (Then t rest') x y p q e =
      let r = stmt_unique s t (lines_of rest ++ x) (lines_of rest' ++ y) (sym (append_assoc (stmt_lines s) (lines_of rest) x) ∙ e ∙ append_assoc (stmt_lines t) (lines_of rest') y) in
      let u = statements_unique rest rest' x y p q r.1 in
      let v = r.0 in
      let w = u.0 in
      (cc, u.1)

pub lines_are_one_tree : LinesAreOneTree
lines_are_one_tree ss us e =
    (statements_unique ss us [] [] tt tt (append-nil (lines_of ss) ∙ e ∙ sym (append-nil (lines_of us)))).0
