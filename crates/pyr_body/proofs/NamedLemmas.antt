-- The lines of a body, with its names put in, are taken, and give the body again.
use Rattle.std.proofs.Common.{◌≡◌, ℕ, zero, suc, ◌+◌, ◌-◌, ◌<◌, ◌≤◌, max, List, [], ◌∷◌, ◌++◌, length, take, drop, map, Option, Some, None, Result, Ok, Err, Bool, true, false, cond, ltb, leb, refl, sym, ap, subst, ◌∙◌, arith, append_assoc, length-take, length-append}
use Rattle.std.specs.Prelude.{◌≢◌, ⊤, bytes_eq}
use Rattle.std.proofs.lemmas.List.{append-nil, take_all}
use Rattle.std.proofs.lemmas.Bool.{false_from_ne_true, ne_eqb, le-ltb, lt-leb, leb-true, leb-false}
use Rattle.std.proofs.lemmas.Slice.Eq.{bytes_eq-Decides}
use Rattle.pyr_num.specs.declared.limits.Quantity.TheVariants as quantities
use Rattle.pyr_num.specs.declared.limits.TheConstants.Limits.{DEPTH, NODES, ALL_NODES, LOOPS, COUNT, LOCALS}
use Rattle.pyr_num.specs.declared.name.Name.{Name}
use Rattle.pyr_lex.specs.Spacing.{canonical_line}
use Rattle.pyr_lex.proofs.Written.{written_is_read}
use Rattle.pyr_body.specs.declared.line_fault.LineFault.{LineFault}
use Rattle.pyr_body.specs.declared.line_fault.LineFault.TheVariants as faults
use Rattle.pyr_body.specs.Tree.{Expr, Stmt, Set, Put, For, Statements, End, Then}
use Rattle.pyr_body.specs.Tree as tree
use Rattle.pyr_body.specs.Size.{expr_nodes, expr_brackets, stmt_loops, statements_loops, statements_work}
use Rattle.pyr_body.specs.Scope.{IsScoped}
use Rattle.pyr_body.specs.Parts.{BodyParts}
use Rattle.pyr_body.specs.Body.{AreDistinct, IsBody}
use Rattle.pyr_body.specs.Lines.{Line, SetLine, PutLine, ForLine, DoneLine, stmt_lines, lines_of, line_nodes, lines_nodes, line_brackets, lines_depth, line_count, lines_count, opened_after, loops_open, numbered_after, all_numbered_after, IsInOrder, AreInOrder}
use Rattle.pyr_body.specs.Written.{WrittenExpr, written_nodes, written_brackets, WrittenLine, written_line_brackets}
use Rattle.pyr_body.specs.Spelling.{line_tokens}
use Rattle.pyr_body.specs.Names.{◌>>=◌, index_from, index_of, known_at, known, resolved}
use Rattle.pyr_body.specs.Named.{name_at, with_names, line_with_names}
use Rattle.pyr_body.specs.Taking.{LinesTaken, no_lines, limit, refuse, nodes_fit, loop_fits, local_fits, numbered, with_line, with_numbered, after_line}
use Rattle.pyr_body.specs.Reader.{IsOutcome, body_taken}
use Rattle.pyr_body.specs.Printed.{named_tokens, AreLineTokens}
use Rattle.pyr_body.specs.RoundTrip.{line_texts, AreRead, IsReadAgain}
use Rattle.pyr_body.proofs.ScopeLemmas.{all_numbered_more}
use Rattle.pyr_body.proofs.Binding.{ok_of, bind_is}
use Rattle.pyr_body.proofs.NameLemmas.{found}
use Rattle.pyr_body.proofs.DepthLemmas.{line_deep}
use Rattle.pyr_body.proofs.LinesLemmas.{lines_nodes-append, all_opened_after-append}
use Rattle.pyr_body.proofs.TreeLines.{statements_nodes-lines, statements_depth-lines, statements_count-lines, statements_opened, lines_are_one_tree}
use Rattle.pyr_body.proofs.OutcomeLemmas.{outcome}

-- the rest of names that differ
distinct_rest : (x : Name) (xs : List Name) → AreDistinct (x ∷ xs) → AreDistinct xs
distinct_rest x xs p = λ i. λ j. λ d. λ h. λ l. p (suc i) (suc j) d (omega (arith, h)) (omega (arith, l))

distinct_back : (xs ys : List Name) → AreDistinct (xs ++ ys) → AreDistinct ys
distinct_back [] ys p = p
distinct_back (x ∷ xs) ys p = distinct_back xs ys (distinct_rest x (xs ++ ys) p)

-- names that differ are found where they stand
index_at : (k : ℕ) (names : List Name) (i : ℕ) → AreDistinct names → i < length names → index_from k (name_at names i) names ≡ Some (k + i)
index_at k [] i p l = absurd (omega (arith, l))
index_at k (x ∷ xs) zero p l =
    ap (λ b. cond b (Some k) (index_from (k + 1) x xs)) ((bytes_eq-Decides x x).1 refl)
    ∙ (let z : k ≡ k + 0 = omega arith in ap Some z)
index_at k (x ∷ xs) (suc i) p l =
    let name : Name = name_at xs i in
    let other : x ≢ name = p 0 (suc i) [] (omega arith) l in
    let no : bytes_eq x name ≡ false = false_from_ne_true (bytes_eq x name) (λ e. other ((bytes_eq-Decides x name).0 e)) in
    ap (λ b. cond b (Some k) (index_from (k + 1) name xs)) no
    ∙ index_at (k + 1) xs i (distinct_rest x xs p) (omega (arith, l))
    ∙ (let z : k + 1 + i ≡ k + suc i = omega arith in ap Some z)

index_is : (names : List Name) (i : ℕ) → AreDistinct names → i < length names → index_of (name_at names i) names ≡ Some i
index_is names i p l = index_at 0 names i p l ∙ (let z : 0 + i ≡ i = omega arith in ap Some z)

keep_some : (b : Bool) (k l : ℕ) (x y : Option ℕ) → cond b (Some k) x ≡ Some l → (x ≡ Some l → y ≡ Some l) → cond b (Some k) y ≡ Some l
keep_some true k l x y h g = h
keep_some false k l x y h g = g h

lose_some : (b : Bool) (k l : ℕ) (x y : Option ℕ) → cond b (Some k) x ≡ Some l → k < l → (x ≡ Some l → y ≡ None) → cond b (Some k) y ≡ None
lose_some true k l x y h m g = absurd (let e : k ≡ l = cc in omega (arith, e, m))
lose_some false k l x y h m g = g h

-- a name's place in a front of the names
index_in_front : (name : Name) (xs : List Name) (n k l : ℕ) → index_from k name xs ≡ Some l → l < k + n → index_from k name (take n xs) ≡ Some l
index_in_front name [] n k l h m = absurd (let j : None ≡ Some l = h in cc)
index_in_front name (x ∷ xs) zero k l h m = absurd (omega (arith, (found k name (x ∷ xs) l h).from, m))
index_in_front name (x ∷ xs) (suc n) k l h m =
    keep_some (bytes_eq x name) k l (index_from (k + 1) name xs) (index_from (k + 1) name (take n xs)) h (λ g. index_in_front name xs n (k + 1) l g (omega (arith, m)))

index_past_front : (name : Name) (xs : List Name) (n k l : ℕ) → index_from k name xs ≡ Some l → k + n ≤ l → index_from k name (take n xs) ≡ None
index_past_front name [] n k l h m = absurd (let j : None ≡ Some l = h in cc)
index_past_front name (x ∷ xs) zero k l h m = refl
index_past_front name (x ∷ xs) (suc n) k l h m =
    lose_some (bytes_eq x name) k l (index_from (k + 1) name xs) (index_from (k + 1) name (take n xs)) h (omega (arith, m)) (λ g. index_past_front name xs n (k + 1) l g (omega (arith, m)))

front_grows : (xs : List Name) (n : ℕ) → n < length xs → take n xs ++ name_at xs n ∷ [] ≡ take (suc n) xs
front_grows [] n h = absurd (omega (arith, h))
front_grows (x ∷ xs) zero h = refl
front_grows (x ∷ xs) (suc n) h = ap (λ l. x ∷ l) (front_grows xs n (omega (arith, h)))

length_front : (n : ℕ) (xs : List Name) → n ≤ length xs → length (take n xs) ≡ n
length_front n xs h = omega (arith, length-take n xs)

pub drop_front : (xs ys : List Name) → drop (length xs) (xs ++ ys) ≡ ys
drop_front [] ys = refl
drop_front (x ∷ xs) ys = drop_front xs ys

-- the tests of the limits are passed
nodes_fit_again : (nodes_before nodes added : ℕ) → nodes + added ≤ NODES → nodes_before + nodes + added ≤ ALL_NODES → nodes_fit nodes_before nodes added ≡ Ok tt
nodes_fit_again nodes_before nodes added h k =
    ap (λ b. cond b (Err (limit quantities.Nodes)) (refuse (ltb ALL_NODES (nodes_before + nodes + added)) (limit quantities.AllNodes))) (le-ltb NODES (nodes + added) h)
    ∙ ap (λ b. refuse b (limit quantities.AllNodes)) (le-ltb ALL_NODES (nodes_before + nodes + added) k)

loop_fits_again : (loops count : ℕ) → loops < LOOPS → count ≤ COUNT → loop_fits loops count ≡ Ok tt
loop_fits_again loops count h k =
    ap (λ b. cond b (Err (limit quantities.Loops)) (refuse (ltb COUNT count) (limit quantities.Count))) (lt-leb LOOPS loops h)
    ∙ ap (λ b. refuse b (limit quantities.Count)) (le-ltb COUNT count k)

-- with its names an expression has as many nodes and brackets
written_nodes-with_names : (locals slots : List Name) (x : Expr) → written_nodes (with_names locals slots x) ≡ expr_nodes x
written_nodes-with_names locals slots (tree.Num word) = refl
written_nodes-with_names locals slots (tree.Local l) = refl
written_nodes-with_names locals slots tree.Frame = refl
written_nodes-with_names locals slots (tree.Get slot i) = ap (λ n. 1 + n) (written_nodes-with_names locals slots i)
written_nodes-with_names locals slots (tree.Bin operator a b) =
    omega (arith, written_nodes-with_names locals slots a, written_nodes-with_names locals slots b)
written_nodes-with_names locals slots (tree.Sel c a b) =
    omega (arith, written_nodes-with_names locals slots c, written_nodes-with_names locals slots a, written_nodes-with_names locals slots b)

written_brackets-with_names : (locals slots : List Name) (x : Expr) → written_brackets (with_names locals slots x) ≡ expr_brackets x
written_brackets-with_names locals slots (tree.Num word) = refl
written_brackets-with_names locals slots (tree.Local l) = refl
written_brackets-with_names locals slots tree.Frame = refl
written_brackets-with_names locals slots (tree.Get slot i) = ap (λ n. 1 + n) (written_brackets-with_names locals slots i)
written_brackets-with_names locals slots (tree.Bin operator a b) =
    omega (arith, written_brackets-with_names locals slots a, written_brackets-with_names locals slots b)
written_brackets-with_names locals slots (tree.Sel c a b) =
    omega (arith, written_brackets-with_names locals slots c, written_brackets-with_names locals slots a, written_brackets-with_names locals slots b)

line_brackets-with_names : (locals reads writes : List Name) (x : Line) → written_line_brackets (line_with_names locals reads writes x) ≡ line_brackets x
line_brackets-with_names locals reads writes (SetLine l e) = written_brackets-with_names locals (reads ++ writes) e
line_brackets-with_names locals reads writes (PutLine o i e) =
    omega (arith, written_brackets-with_names locals (reads ++ writes) i, written_brackets-with_names locals (reads ++ writes) e)
line_brackets-with_names locals reads writes (ForLine l n) = refl
line_brackets-with_names locals reads writes DoneLine = refl

-- an expression gets its numbers again
module _ (locals slots : List Name) (distinct : AreDistinct locals) (distinct_slots : AreDistinct slots) (n : ℕ) (below : n ≤ length locals) where
  resolved_again : (x : Expr) → IsScoped (length slots) n x → resolved (take n locals) slots (with_names locals slots x) ≡ Ok x
  resolved_again (tree.Num word) s = refl
  resolved_again (tree.Local l) s =
      let name : Name = name_at locals l in
      let i : index_of name (take n locals) ≡ Some l = index_in_front name locals n 0 l (index_is locals l distinct (omega (arith, s, below))) (omega (arith, s)) in
      ap (λ o. known_at name o >>= λ (j : ℕ). Ok (tree.Local j)) i
  resolved_again tree.Frame s = refl
  resolved_again (tree.Get slot i) s =
      let name : Name = name_at slots slot in
      ap (λ o. known_at name o >>= λ (j : ℕ). resolved (take n locals) slots (with_names locals slots i) >>= λ (y : Expr). Ok (tree.Get j y)) (index_is slots slot distinct_slots s.0)
      ∙ ap (λ r. r >>= λ (y : Expr). Ok (tree.Get slot y)) (resolved_again i s.1)
  resolved_again (tree.Bin operator a b) s =
      ap (λ r. r >>= λ (u : Expr). resolved (take n locals) slots (with_names locals slots b) >>= λ (v : Expr). Ok (tree.Bin operator u v)) (resolved_again a s.0)
      ∙ ap (λ r. r >>= λ (v : Expr). Ok (tree.Bin operator a v)) (resolved_again b s.1)
  resolved_again (tree.Sel c a b) s =
      ap (λ r. r >>= λ (t : Expr). resolved (take n locals) slots (with_names locals slots a) >>= λ (u : Expr). resolved (take n locals) slots (with_names locals slots b) >>= λ (v : Expr). Ok (tree.Sel t u v)) (resolved_again c s.0)
      ∙ ap (λ r. r >>= λ (u : Expr). resolved (take n locals) slots (with_names locals slots b) >>= λ (v : Expr). Ok (tree.Sel c u v)) (resolved_again a s.1)
      ∙ ap (λ r. r >>= λ (v : Expr). Ok (tree.Sel c a v)) (resolved_again b s.2)

-- a local has its number, or gets the next
module _ (locals : List Name) (distinct : AreDistinct locals) (few : length locals ≤ LOCALS) (n l : ℕ) (low : l ≤ n) (within : max n (l + 1) ≤ length locals) where
  record IsNumberedAgain : Type 0 where
    pub fits : local_fits (take n locals) (index_of (name_at locals l) (take n locals)) ≡ Ok tt
    pub number : numbered (name_at locals l) (take n locals) (index_of (name_at locals l) (take n locals)) ≡ (l, take (max n (l + 1)) locals)

  numbered_again : IsNumberedAgain
  numbered_again = by_place (leb n l) refl where
    name : Name
    name = name_at locals l

    there : index_of name locals ≡ Some l
    there = index_is locals l distinct (omega (arith, within))

    by_place : (b : Bool) → leb n l ≡ b → IsNumberedAgain
    by_place true e =
        let m : l ≡ n = omega (arith, low, leb-true n l e) in
        let none : index_of name (take n locals) ≡ None = index_past_front name locals n 0 l there (omega (arith, m)) in
        let long : length (take n locals) ≡ l = length_front n locals (omega (arith, within)) ∙ sym m in
        let grown : take n locals ++ name ∷ [] ≡ take (max n (l + 1)) locals =
        ap (λ k. take n locals ++ name_at locals k ∷ []) m ∙ front_grows locals n (omega (arith, within, m)) ∙ ap (λ k. take k locals) (let z : suc n ≡ max n (l + 1) = omega (arith, m) in z) in
        record {
          fits = ap (local_fits (take n locals)) none ∙ ap (λ b. refuse b (limit quantities.Locals)) (lt-leb LOCALS (length (take n locals)) (omega (arith, long, within, few)));
          number = ap (numbered name (take n locals)) none ∙ ap (λ k. (k, take n locals ++ name ∷ [])) long ∙ ap (λ ls. (l, ls)) grown;
        }
    by_place false e =
        let m : l < n = leb-false n l e in
        let some : index_of name (take n locals) ≡ Some l = index_in_front name locals n 0 l there (omega (arith, m)) in
        record {
          fits = ap (local_fits (take n locals)) some;
          number = ap (numbered name (take n locals)) some ∙ ap (λ k. (l, take k locals)) (let z : n ≡ max n (l + 1) = omega (arith, m) in z);
        }

-- where so many loops are open, the line may come
abbrev HasRoom : Line → ℕ → Type 0
HasRoom (SetLine l e) k = ⊤
HasRoom (PutLine o i e) k = ⊤
HasRoom (ForLine l n) k = k < LOOPS
HasRoom DoneLine k = 0 < k

abbrev HaveRoom : List Line → ℕ → Type 0
HaveRoom [] k = ⊤
HaveRoom (x ∷ xs) k = HasRoom x k × HaveRoom xs (opened_after x k)

-- the lines of a tree may come, and others behind them
mutual
  stmt_has_room : (s : Stmt) (rest : List Line) (k : ℕ) → k + stmt_loops s ≤ LOOPS → HaveRoom rest k → HaveRoom (stmt_lines s ++ rest) k
  stmt_has_room (Set l e) rest k h r = (tt, r)
  stmt_has_room (Put o i e) rest k h r = (tt, r)
  stmt_has_room (For l n turn) rest k h r =
      let back : k ≡ k + 1 - 1 = omega arith in (
        omega (arith, h),
        subst (λ ls. HaveRoom ls (k + 1)) (sym (append_assoc (lines_of turn) (DoneLine ∷ []) rest))
            (statements_have_room turn (DoneLine ∷ rest) (k + 1) (omega (arith, h)) (omega arith, subst (HaveRoom rest) back r)),
      )

  statements_have_room : (ss : Statements) (rest : List Line) (k : ℕ) → k + statements_loops ss ≤ LOOPS → HaveRoom rest k → HaveRoom (lines_of ss ++ rest) k
  statements_have_room End rest k h r = r
  statements_have_room (Then s others) rest k h r =
      subst (λ ls. HaveRoom ls k) (sym (append_assoc (stmt_lines s) (lines_of others) rest))
      (stmt_has_room s (lines_of others ++ rest) k (omega (arith, h)) (statements_have_room others rest k (omega (arith, h)) r))

module _ (reads writes : List Name) (nodes_before : ℕ) (locals : List Name) (distinct : AreDistinct locals) (distinct_slots : AreDistinct (reads ++ writes)) (few : length locals ≤ LOCALS) where
  -- after so many of the locals have a number
  abbrev taken_at : ℕ → List Line → LinesTaken
  taken_at n done =
      record { reads = length reads; slots = reads ++ writes; nodes_before = nodes_before; locals = take n locals; lines = done }

  scoped_slots : (n : ℕ) (x : Expr) → IsScoped (length reads + length writes) n x → IsScoped (length (reads ++ writes)) n x
  scoped_slots n x s = subst (λ k. IsScoped k n x) (sym (length-append reads writes)) s

  -- what a line needs
  record MayCome (n : ℕ) (done : List Line) (x : Line) : Type 0 where
    pub order : IsInOrder (length reads) (length writes) x n
    pub within : numbered_after x n ≤ length locals
    pub nodes : lines_nodes done + line_nodes x ≤ NODES
    pub all_nodes : nodes_before + lines_nodes done + line_nodes x ≤ ALL_NODES
    pub room : HasRoom x (loops_open done)
    pub count : line_count x ≤ COUNT

  line_again : (x : Line) (n : ℕ) (done : List Line) → MayCome n done x → after_line (taken_at n done) (line_with_names locals reads writes x) ≡ Ok (taken_at (numbered_after x n) (done ++ x ∷ []))
  line_again (SetLine l x) n done m =
      let before : LinesTaken = taken_at n done in
      let name : Name = name_at locals l in
      let e : WrittenExpr = with_names locals (reads ++ writes) x in
      let s : written_nodes e ≡ expr_nodes x = written_nodes-with_names locals (reads ++ writes) x in
      let i = numbered_again locals distinct few n l m.order.0 m.within in
      bind_is (nodes_fit nodes_before (lines_nodes done) (1 + written_nodes e)) (λ a. local_fits (take n locals) (index_of name (take n locals)) >>= λ b. resolved (take n locals) (reads ++ writes) e >>= λ y. Ok (with_numbered before name (λ k. SetLine k y))) tt _
      (nodes_fit_again nodes_before (lines_nodes done) (1 + written_nodes e) (omega (arith, m.nodes, s)) (omega (arith, m.all_nodes, s)))
      (bind_is (local_fits (take n locals) (index_of name (take n locals))) (λ b. resolved (take n locals) (reads ++ writes) e >>= λ y. Ok (with_numbered before name (λ k. SetLine k y))) tt _ i.fits
      (bind_is (resolved (take n locals) (reads ++ writes) e) (λ y. Ok (with_numbered before name (λ k. SetLine k y))) x _ (resolved_again locals (reads ++ writes) distinct distinct_slots n (omega (arith, m.within)) x (scoped_slots n x m.order.1))
      (ap (λ (r : ℕ × List Name). ok_of (with_line before r.1 (SetLine r.0 x))) i.number)))
  line_again (PutLine o i x) n done m =
      let before : LinesTaken = taken_at n done in
      let name : Name = name_at writes o in
      let index : WrittenExpr = with_names locals (reads ++ writes) i in
      let e : WrittenExpr = with_names locals (reads ++ writes) x in
      let s : written_nodes index ≡ expr_nodes i = written_nodes-with_names locals (reads ++ writes) i in
      let t : written_nodes e ≡ expr_nodes x = written_nodes-with_names locals (reads ++ writes) x in
      let there : known name (drop (length reads) (reads ++ writes)) ≡ Ok o =
      ap (known name) (drop_front reads writes) ∙ ap (known_at name) (index_is writes o (distinct_back reads writes distinct_slots) m.order.0) in
      bind_is (nodes_fit nodes_before (lines_nodes done) (1 + written_nodes index + written_nodes e)) (λ a. known name (drop (length reads) (reads ++ writes)) >>= λ k. resolved (take n locals) (reads ++ writes) index >>= λ u. resolved (take n locals) (reads ++ writes) e >>= λ y. Ok (with_line before (take n locals) (PutLine k u y))) tt _
      (nodes_fit_again nodes_before (lines_nodes done) (1 + written_nodes index + written_nodes e) (omega (arith, m.nodes, s, t)) (omega (arith, m.all_nodes, s, t)))
      (bind_is (known name (drop (length reads) (reads ++ writes))) (λ k. resolved (take n locals) (reads ++ writes) index >>= λ u. resolved (take n locals) (reads ++ writes) e >>= λ y. Ok (with_line before (take n locals) (PutLine k u y))) o _ there
      (bind_is (resolved (take n locals) (reads ++ writes) index) (λ u. resolved (take n locals) (reads ++ writes) e >>= λ y. Ok (with_line before (take n locals) (PutLine o u y))) i _ (resolved_again locals (reads ++ writes) distinct distinct_slots n m.within i (scoped_slots n i m.order.1))
      (bind_is (resolved (take n locals) (reads ++ writes) e) (λ y. Ok (with_line before (take n locals) (PutLine o i y))) x _ (resolved_again locals (reads ++ writes) distinct distinct_slots n m.within x (scoped_slots n x m.order.2)) refl)))
  line_again (ForLine l count) n done m =
      let before : LinesTaken = taken_at n done in
      let name : Name = name_at locals l in
      let i = numbered_again locals distinct few n l m.order m.within in
      bind_is (nodes_fit nodes_before (lines_nodes done) 1) (λ a. loop_fits (loops_open done) count >>= λ b. local_fits (take n locals) (index_of name (take n locals)) >>= λ d. Ok (with_numbered before name (λ k. ForLine k count))) tt _
      (nodes_fit_again nodes_before (lines_nodes done) 1 m.nodes m.all_nodes)
      (bind_is (loop_fits (loops_open done) count) (λ b. local_fits (take n locals) (index_of name (take n locals)) >>= λ d. Ok (with_numbered before name (λ k. ForLine k count))) tt _ (loop_fits_again (loops_open done) count m.room m.count)
      (bind_is (local_fits (take n locals) (index_of name (take n locals))) (λ d. Ok (with_numbered before name (λ k. ForLine k count))) tt _ i.fits
      (ap (λ (r : ℕ × List Name). ok_of (with_line before r.1 (ForLine r.0 count))) i.number)))
  line_again DoneLine n done m =
      ap (λ b. cond b (Err faults.Text) (Ok (with_line (taken_at n done) (take n locals) DoneLine))) (ne_eqb (loops_open done) 0 (λ e. omega (arith, e, m.room)))

  -- its text is read as that line
  text_again : (x : Line) (n : ℕ) (done : List Line) → MayCome n done x → line_brackets x ≤ DEPTH → IsOutcome (taken_at n done) (named_tokens locals reads writes x) (Ok (taken_at (numbered_after x n) (done ++ x ∷ [])))
  text_again x n done m d =
      let l : WrittenLine = line_with_names locals reads writes x in
      let o = outcome (taken_at n done) (line_tokens l) in
      subst (IsOutcome (taken_at n done) (line_tokens l)) (o.line l refl (omega (arith, d, line_deep l, line_brackets-with_names locals reads writes x)) ∙ line_again x n done m) o

  -- what lines need
  record MayAllCome (n : ℕ) (done xs : List Line) : Type 0 where
    pub order : AreInOrder (length reads) (length writes) xs n
    pub within : all_numbered_after xs n ≤ length locals
    pub nodes : lines_nodes done + lines_nodes xs ≤ NODES
    pub all_nodes : nodes_before + lines_nodes done + lines_nodes xs ≤ ALL_NODES
    pub room : HaveRoom xs (loops_open done)
    pub counts : lines_count xs ≤ COUNT
    pub depth : lines_depth xs ≤ DEPTH
    pub tokens : AreLineTokens locals reads writes xs

  lines_again : (xs done : List Line) (n : ℕ) → MayAllCome n done xs → AreRead (taken_at n done) (map (λ x. canonical_line (named_tokens locals reads writes x)) xs) (taken_at (all_numbered_after xs n) (done ++ xs))
  lines_again [] done n m = ap (taken_at n) (sym (append-nil done))
  lines_again (x ∷ xs) done n m =
      let next : LinesTaken = taken_at (numbered_after x n) (done ++ x ∷ []) in
      let one : MayCome n done x = record {
        order = m.order.0;
        within = omega (arith, m.within, all_numbered_more xs (numbered_after x n));
        nodes = omega (arith, m.nodes);
        all_nodes = omega (arith, m.all_nodes);
        room = m.room.0;
        count = omega (arith, m.counts);
      } in
      let counted = lines_nodes-append done (x ∷ []) in
      let others : MayAllCome (numbered_after x n) (done ++ x ∷ []) xs = record {
        order = m.order.1;
        within = m.within;
        nodes = omega (arith, m.nodes, counted);
        all_nodes = omega (arith, m.all_nodes, counted);
        room = subst (HaveRoom xs) (sym (all_opened_after-append done (x ∷ []) 0)) m.room.1;
        counts = omega (arith, m.counts);
        depth = omega (arith, m.depth);
        tokens = m.tokens.1;
      } in (
        named_tokens locals reads writes x,
        written_is_read.canonical (named_tokens locals reads writes x) m.tokens.0,
        (
          next,
          text_again x n done one (omega (arith, m.depth)),
          subst (λ ls. AreRead next (map (λ y. canonical_line (named_tokens locals reads writes y)) xs) (taken_at (all_numbered_after xs (numbered_after x n)) ls)) (append_assoc done (x ∷ []) xs) (lines_again xs (done ++ x ∷ []) (numbered_after x n) others),
        ),
      )

abbrev body_ok : BodyParts → Result BodyParts LineFault
body_ok body = Ok body

-- the canonical text of a body is read as that body
pub read_again : (body : BodyParts) (reads writes : List Name) → IsBody body → length reads ≡ body.reads → length writes ≡ body.writes → AreLineTokens body.locals reads writes (lines_of body.statements) → IsReadAgain body reads writes
read_again body reads writes is r w tokens = λ nodes_before. λ distinct_slots. λ fits.
    let ss : Statements = body.statements in
    let xs : List Line = lines_of ss in
    let locals : List Name = body.locals in
    let last : LinesTaken = record { reads = length reads; slots = reads ++ writes; nodes_before = nodes_before; locals = locals; lines = xs } in
    let n = statements_nodes-lines ss in
    let may : MayAllCome reads writes nodes_before locals is.names distinct_slots is.locals 0 [] xs = record {
      order = subst (λ k. AreInOrder (length reads) k xs 0) (sym w) (subst (λ k. AreInOrder k body.writes xs 0) (sym r) is.order);
      within = omega (arith, is.numbered);
      nodes = omega (arith, n, is.nodes);
      all_nodes = omega (arith, n, fits);
      room = subst (λ ls. HaveRoom ls 0) (append-nil xs) (statements_have_room ss [] 0 (omega (arith, is.loops)) tt);
      counts = omega (arith, statements_count-lines ss, is.count);
      depth = omega (arith, statements_depth-lines ss, is.depth);
      tokens = tokens;
    } in
    let all_read = lines_again reads writes nodes_before locals is.names distinct_slots is.locals xs [] 0 may in
    let named : take (all_numbered_after xs 0) locals ≡ locals = ap (λ k. take k locals) is.numbered ∙ take_all (length locals) locals (omega arith) in
    let texts : List (List ℕ) = line_texts body reads writes in
    let at_end : LinesTaken → Type 0 = λ (t : LinesTaken). AreRead (no_lines reads writes nodes_before) texts t in
    let read : at_end last = subst at_end (ap (λ (ls : List Name). let t : LinesTaken = record { reads = length reads; slots = reads ++ writes; nodes_before = nodes_before; locals = ls; lines = xs } in t) named) all_read in
    let same_writes : length (reads ++ writes) - length reads ≡ body.writes = omega (arith, length-append reads writes, w) in (
      last,
      read,
      record {
        open_loop = λ o. absurd (omega (arith, o, statements_opened ss 0));
        tree = λ _. (ss, refl);
        much_work = λ us. λ e. λ more. absurd (let s : us ≡ ss = lines_are_one_tree us ss e in omega (arith, more, is.work, ap (λ (t : Statements). statements_work t) s));
        body = λ us. λ e. λ _. the_body us nodes_before (lines_are_one_tree us ss e) same_writes;
      },
    )
  where
    the_body : (us : Statements) (nodes_before : ℕ) → us ≡ body.statements → length (reads ++ writes) - length reads ≡ body.writes → body_ok body ≡ Ok (body_taken (record { reads = length reads; slots = reads ++ writes; nodes_before = nodes_before; locals = body.locals; lines = lines_of body.statements }) us)
    the_body us nodes_before s q = ap body_ok (λ i. record { statements = sym s i; locals = body.locals; reads = sym r i; writes = sym q i })

-- the same, where the parts have other names
pub printed_again : (body : BodyParts) (reads writes locals : List Name) (statements : Statements) → IsBody body → length reads ≡ body.reads → length writes ≡ body.writes → locals ≡ body.locals → statements ≡ body.statements → AreLineTokens locals reads writes (lines_of statements) → IsReadAgain body reads writes
printed_again body reads writes locals statements is r w l s tokens =
    let P : List Name → Type 0 = λ names. AreLineTokens names reads writes (lines_of body.statements) in
    let Q : Statements → Type 0 = λ ss. AreLineTokens locals reads writes (lines_of ss) in
    read_again body reads writes is r w (subst P l (subst Q s tokens))
