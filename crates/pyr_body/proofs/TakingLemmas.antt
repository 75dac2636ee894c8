-- What a reading keeps, one line after another.
use Rattle.std.proofs.Common.{◌≡◌, ℕ, ◌+◌, ◌-◌, ◌<◌, ◌≤◌, List, [], ◌∷◌, ◌++◌, length, take, drop, max, Option, Some, None, Result, Ok, Err, ltb, leb, cond, refl, sym, ap, subst, ◌∙◌, arith, append_assoc, length-append, length-drop, eq-eqb}
use Rattle.std.specs.Prelude.{◌≢◌}
use Rattle.std.proofs.lemmas.List.{append-nil, take_all}
use Rattle.std.proofs.lemmas.Bool.{cond_both, ltb-false, leb-false, ne_eqb}
use Rattle.pyr_num.specs.declared.limits.TheConstants.Limits.{DEPTH, NODES, LOOPS, COUNT, LOCALS}
use Rattle.pyr_num.specs.declared.name.Name.{Name}
use Rattle.pyr_body.specs.declared.line_fault.LineFault.{LineFault}
use Rattle.pyr_body.specs.declared.line_fault.LineFault.TheVariants as faults
use Rattle.pyr_body.specs.declared.open_loop.OpenLoop.{OpenLoop}
use Rattle.pyr_body.specs.declared.expr.Expr.{Expr as ExprValue}
use Rattle.pyr_body.specs.declared.stmt.Stmt.{Stmt as StmtValue}
use Rattle.pyr_body.specs.declared.stmt.Stmt.TheVariants as statements
use Rattle.pyr_body.specs.declared.stmt.Stmt.TheVariants.{rolls-Set, rolls-Put, rolls-For}
use Rattle.pyr_body.specs.declared.stmt.Stmt.TheOpen.{Set as SetF, Put as PutF, For as ForF}
use Rattle.pyr_body.specs.declared.stmt.Stmt.TheFolds.{fold-roll-Stmt}
use Rattle.pyr_body.specs.Tree.{Expr, Stmt}
use Rattle.pyr_body.specs.Tree as tree
use Rattle.pyr_body.specs.Scope.{IsScoped}
use Rattle.pyr_body.specs.Seen.{expr_of, stmt_of, stmt_layer, statements_of}
use Rattle.pyr_body.specs.Body.{AreDistinct}
use Rattle.pyr_body.specs.Lines.{Line, SetLine, PutLine, ForLine, DoneLine, stmt_lines, lines_of, line_nodes, lines_nodes, line_brackets, lines_depth, line_count, lines_count, opened_after, loops_open, loops_from, numbered_after, all_numbered_after, IsInOrder, AreInOrder}
use Rattle.pyr_body.specs.Written.{WrittenExpr, written_nodes, written_brackets}
use Rattle.pyr_body.specs.Names.{◌>>=◌, index_of, known, resolved}
use Rattle.pyr_body.specs.Taking.{LinesTaken, nodes_fit, loop_fits, local_fits, numbered, with_line, with_numbered, after_set, after_put, after_for, after_done}
use Rattle.pyr_body.specs.Fitting.{set_value, put_statement, for_fits}
use Rattle.pyr_body.specs.Kept.{outer_lines, lines_in, taken_by, IsKept}
use Rattle.pyr_body.proofs.ScopeLemmas.{all_numbered_after-append}
use Rattle.pyr_body.proofs.Binding.{ok_of, bind_ok, bind_is, same_ok}
use Rattle.pyr_body.proofs.NameLemmas.{known_there, resolved_is, numbered_is}
use Rattle.pyr_body.proofs.LinesLemmas.{lines_nodes-append, lines_depth-append, lines_count-append, all_opened_after-append, loops_from-append, AreInOrder-append, lines_of-append, lines_in-append, outer_lines-append}

-- what lines come to
abbrev at_lines : ℕ → List Name → ℕ → List Name → List Line → LinesTaken
at_lines reads slots nodes_before locals lines =
    record { reads = reads; slots = slots; nodes_before = nodes_before; locals = locals; lines = lines }

-- a line that may come next
pub record IsNext (reads : ℕ) (slots locals locals' : List Name) (x : Line) : Type 0 where
  pub order : IsInOrder reads (length slots - reads) x (length locals)
  pub numbered : numbered_after x (length locals) ≡ length locals'
  pub few_locals : length locals' ≤ LOCALS
  pub distinct : AreDistinct locals'
  pub brackets : line_brackets x ≤ DEPTH
  pub count : line_count x ≤ COUNT

-- what a reading keeps, it keeps with a line more
pub kept_step : (reads : ℕ) (slots : List Name) (nodes_before : ℕ) (locals locals' : List Name) (lines lines' : List Line) (loops loops' nodes nodes' : ℕ) (x : Line)
    → IsKept (at_lines reads slots nodes_before locals lines) loops nodes
    → IsNext reads slots locals locals' x
    → lines' ≡ lines ++ x ∷ []
    → loops' ≡ opened_after x loops → loops' ≤ LOOPS
    → nodes' ≡ nodes + line_nodes x → nodes' ≤ NODES
    → IsKept (at_lines reads slots nodes_before locals' lines') loops' nodes'
kept_step reads slots nodes_before locals locals' lines lines' loops loops' nodes nodes' x k next e opened few_loops counted few_nodes =
    let n : lines_nodes lines' ≡ lines_nodes (lines ++ x ∷ []) = ap lines_nodes e in
    let o : loops_open lines' ≡ opened_after x (loops_open lines) = ap loops_open e ∙ all_opened_after-append lines (x ∷ []) 0 in
    let p : opened_after x loops ≡ opened_after x (loops_open lines) = ap (opened_after x) k.loops_counted in
    let nested : loops_from lines' 0 ≡ max (loops_from lines 0) (loops_from (x ∷ []) (loops_open lines)) = ap (λ ls. loops_from ls 0) e ∙ loops_from-append lines (x ∷ []) 0 in
    let counts : lines_count lines' ≡ max (lines_count lines) (lines_count (x ∷ [])) = ap lines_count e ∙ lines_count-append lines (x ∷ []) in
    let depths : lines_depth lines' ≡ max (lines_depth lines) (lines_depth (x ∷ [])) = ap lines_depth e ∙ lines_depth-append lines (x ∷ []) in
    let at : IsInOrder reads (length slots - reads) x (all_numbered_after lines 0) = subst (IsInOrder reads (length slots - reads) x) (sym k.numbered) next.order in
    record {
      nodes_counted = omega (arith, k.nodes_counted, n, counted, lines_nodes-append lines (x ∷ []));
      few_nodes = few_nodes;
      loops_counted = opened ∙ p ∙ sym o;
      few_loops = few_loops;
      loops_nested = omega (arith, nested, k.loops_nested, opened, p, few_loops, k.loops_counted, k.few_loops);
      small_counts = omega (arith, counts, k.small_counts, next.count);
      shallow = omega (arith, depths, k.shallow, next.brackets);
      few_locals = next.few_locals;
      distinct_locals = next.distinct;
      slots_split = k.slots_split;
      few_slots = k.few_slots;
      few_before = k.few_before;
      order = subst (λ ls. AreInOrder reads (length slots - reads) ls 0) (sym e) (AreInOrder-append reads (length slots - reads) lines (x ∷ []) 0 k.order (at, tt));
      numbered = ap (λ ls. all_numbered_after ls 0) e ∙ all_numbered_after-append lines (x ∷ []) 0 ∙ ap (numbered_after x) k.numbered ∙ next.numbered;
    }

-- the tests of the limits
nodes_fit-ok : (nodes_before nodes added : ℕ) → nodes_fit nodes_before nodes added ≡ Ok tt → nodes + added ≤ NODES
nodes_fit-ok nodes_before nodes added =
    cond_both (ltb NODES (nodes + added)) _ _ (λ (r : Result (Unit {0}) LineFault). r ≡ Ok tt → nodes + added ≤ NODES)
    (λ e. λ h. absurd cc)
    (λ e. λ h. ltb-false NODES (nodes + added) e)

loop_fits-ok : (loops count : ℕ) → loop_fits loops count ≡ Ok tt → (loops < LOOPS) × (count ≤ COUNT)
loop_fits-ok loops count =
    cond_both (leb LOOPS loops) _ _ (λ (r : Result (Unit {0}) LineFault). r ≡ Ok tt → (loops < LOOPS) × (count ≤ COUNT))
    (λ e. λ h. absurd cc)
    (λ e. cond_both (ltb COUNT count) _ _ (λ (r : Result (Unit {0}) LineFault). r ≡ Ok tt → (loops < LOOPS) × (count ≤ COUNT))
    (λ f. λ h. absurd cc)
    (λ f. λ h. (leb-false LOOPS loops e, ltb-false COUNT count f)))

local_fits-ok : (name : Name) (locals : List Name) (o : Option ℕ) → length locals ≤ LOCALS → local_fits locals o ≡ Ok tt → length (numbered name locals o).1 ≤ LOCALS
local_fits-ok name locals (Some i) l h = l
local_fits-ok name locals None l h =
    let go : local_fits locals None ≡ Ok tt → length (locals ++ name ∷ []) ≤ LOCALS =
    cond_both (leb LOCALS (length locals)) _ _ (λ (r : Result (Unit {0}) LineFault). r ≡ Ok tt → length (locals ++ name ∷ []) ≤ LOCALS)
    (λ e. λ h. absurd cc)
    (λ e. λ h. omega (arith, leb-false LOCALS (length locals) e, length-append locals (name ∷ []))) in
    go h

-- the trees of new statements
stmt_of-Set : (l : ℕ) (x : ExprValue) → stmt_of (statements.Set l x) ≡ tree.Set l (expr_of x)
stmt_of-Set l x = ap stmt_of (sym (rolls-Set l x)) ∙ fold-roll-Stmt Stmt stmt_layer (SetF l x)

stmt_of-Put : (o : ℕ) (i x : ExprValue) → stmt_of (statements.Put o i x) ≡ tree.Put o (expr_of i) (expr_of x)
stmt_of-Put o i x = ap stmt_of (sym (rolls-Put o i x)) ∙ fold-roll-Stmt Stmt stmt_layer (PutF o i x)

stmt_of-For : (l n : ℕ) (turn : List StmtValue) → stmt_of (statements.For l n turn) ≡ tree.For l n (statements_of turn)
stmt_of-For l n turn = ap stmt_of (sym (rolls-For l n turn)) ∙ fold-roll-Stmt Stmt stmt_layer (ForF l n turn)

-- the slots are the reads and the writes
whole : (reads : ℕ) (slots : List Name) → reads ≤ length slots → length slots ≡ reads + (length slots - reads)
whole reads slots l = omega arith

-- a loop behind these statements
abbrev opened_loop : List StmtValue → ℕ → ℕ → OpenLoop
opened_loop front local count = record { before = front; local = local; count = count }

-- what a reading of other fields comes to
pub record IsTaken (before : Result LinesTaken LineFault) (after : LinesTaken) (loops nodes : ℕ) : Type 0 where
  pub kept : IsKept after loops nodes
  pub is : before ≡ Ok after

module _ (reads : ℕ) (slots : List Name) (nodes_before : ℕ) (locals : List Name) (outer : List OpenLoop) (current : List StmtValue) (nodes : ℕ) (k : IsKept (taken_by reads slots nodes_before locals outer current) (length outer) nodes) where
  abbrev before : LinesTaken
  before = taken_by reads slots nodes_before locals outer current

  -- so many nodes more are few
  few_more : (added : ℕ) → nodes_fit nodes_before (lines_nodes (lines_in outer current)) added ≡ Ok tt → nodes + added ≤ NODES
  few_more added fits = omega (arith, k.nodes_counted, nodes_fit-ok nodes_before (lines_nodes (lines_in outer current)) added fits)

  -- a local that has or gets a number
  module _ (name : Name) (fits : local_fits locals (index_of name locals) ≡ Ok tt) (l : ℕ) (locals' : List Name) (number : numbered name locals (index_of name locals) ≡ (l, locals')) where
    pub record IsNewLocal : Type 0 where
      pub next : l ≤ length locals
      pub count : max (length locals) (l + 1) ≡ length locals'
      pub distinct : AreDistinct locals'
      pub few : length locals' ≤ LOCALS

    local_new : IsNewLocal
    local_new =
        let n = numbered_is name locals (index_of name locals) refl in
        let first : (numbered name locals (index_of name locals)).0 ≡ l = ap (λ (p : ℕ × List Name). p.0) number in
        let second : (numbered name locals (index_of name locals)).1 ≡ locals' = ap (λ (p : ℕ × List Name). p.1) number in
        let longer : length (numbered name locals (index_of name locals)).1 ≡ length locals' = ap (λ (ls : List Name). length ls) second in
        record {
          next = omega (arith, n.next, first);
          count = omega (arith, n.count, first, longer);
          distinct = subst AreDistinct second (n.distinct k.distinct_locals);
          few = omega (arith, longer, local_fits-ok name locals (index_of name locals) k.few_locals fits);
        }

  -- a `set`
  module _ (name : Name) (e : WrittenExpr) (x : Expr) (value : set_value before name e ≡ Ok x) where
    pub record SetParts : Type 0 where
      pub fits : nodes_fit nodes_before (lines_nodes (lines_in outer current)) (1 + written_nodes e) ≡ Ok tt
      pub local : local_fits locals (index_of name locals) ≡ Ok tt
      pub found : resolved locals slots e ≡ Ok x

    set_parts : SetParts
    set_parts =
        let p = bind_ok (nodes_fit nodes_before (lines_nodes (lines_in outer current)) (1 + written_nodes e)) (λ a. local_fits locals (index_of name locals) >>= λ b. resolved locals slots e) x value in
        let q = bind_ok (local_fits locals (index_of name locals)) (λ b. resolved locals slots e) x p.2 in
        record { fits = p.1; local = q.1; found = q.2 }

    pub set_fits : nodes + (1 + written_nodes e) ≤ NODES
    set_fits = few_more (1 + written_nodes e) set_parts.fits

  module _ (s : ℕ) (name : Name) (e : WrittenExpr) (x : ExprValue) (locals' : List Name) (current' : List StmtValue)
      (sized : s ≡ written_nodes e) (value : set_value before name e ≡ Ok (expr_of x))
      (is_locals : locals' ≡ (numbered name locals (index_of name locals)).1)
      (pushed : current' ≡ current ++ statements.Set (numbered name locals (index_of name locals)).0 x ∷ [])
      (deep : written_brackets e ≤ DEPTH) where
    abbrev set_local : ℕ
    set_local = (numbered name locals (index_of name locals)).0

    set_number : numbered name locals (index_of name locals) ≡ (set_local, locals')
    set_number = ap (λ (ls : List Name). (set_local, ls)) (sym is_locals)

    set_lines : lines_in outer current' ≡ lines_in outer current ++ SetLine set_local (expr_of x) ∷ []
    set_lines =
        ap (lines_in outer) pushed
        ∙ lines_in-append outer current (statements.Set set_local x)
        ∙ ap (λ t. lines_in outer current ++ stmt_lines t) (stmt_of-Set set_local x)

    pub set_taken : IsTaken (after_set before name e) (taken_by reads slots nodes_before locals' outer current') (length outer) (nodes + (1 + s))
    set_taken =
        let p = set_parts name e (expr_of x) value in
        let n = local_new name p.local set_local locals' set_number in
        let r = resolved_is locals slots e (expr_of x) p.found in
        let next : IsNext reads slots locals locals' (SetLine set_local (expr_of x)) = record {
          order = (n.next, subst (λ m. IsScoped m (length locals) (expr_of x)) (whole reads slots k.slots_split) r.scoped);
          numbered = n.count;
          few_locals = n.few;
          distinct = n.distinct;
          brackets = omega (arith, r.brackets, deep);
          count = omega arith;
        } in
        record {
          kept = kept_step reads slots nodes_before locals locals' (lines_in outer current) (lines_in outer current') (length outer) (length outer) nodes (nodes + (1 + s)) (SetLine set_local (expr_of x)) k next set_lines refl k.few_loops (omega (arith, r.nodes, sized)) (omega (arith, sized, few_more (1 + written_nodes e) p.fits));
          is =
              bind_is (nodes_fit nodes_before (lines_nodes (lines_in outer current)) (1 + written_nodes e)) (λ a. local_fits locals (index_of name locals) >>= λ b. resolved locals slots e >>= λ y. Ok (with_numbered before name (λ m. SetLine m y))) tt _ p.fits
              (bind_is (local_fits locals (index_of name locals)) (λ b. resolved locals slots e >>= λ y. Ok (with_numbered before name (λ m. SetLine m y))) tt _ p.local
              (bind_is (resolved locals slots e) (λ y. Ok (with_numbered before name (λ m. SetLine m y))) (expr_of x) _ p.found
              (ap (λ (p : ℕ × List Name). ok_of (with_line before p.1 (SetLine p.0 (expr_of x)))) set_number
              ∙ ap (λ ls. ok_of (at_lines reads slots nodes_before locals' ls)) (sym set_lines))));
        }

  -- a `put`
  module _ (name : Name) (index e : WrittenExpr) (y : Stmt) (statement : put_statement before name index e ≡ Ok y) where
    pub record PutParts : Type 0 where
      pub fits : nodes_fit nodes_before (lines_nodes (lines_in outer current)) (1 + written_nodes index + written_nodes e) ≡ Ok tt
      pub o : ℕ
      pub output : known name (drop reads slots) ≡ Ok o
      pub i : Expr
      pub index_found : resolved locals slots index ≡ Ok i
      pub x : Expr
      pub found : resolved locals slots e ≡ Ok x
      pub is : tree.Put o i x ≡ y

    put_parts : PutParts
    put_parts =
        let p = bind_ok (nodes_fit nodes_before (lines_nodes (lines_in outer current)) (1 + written_nodes index + written_nodes e)) (λ a. known name (drop reads slots) >>= λ o. resolved locals slots index >>= λ i. resolved locals slots e >>= λ x. Ok (tree.Put o i x)) y statement in
        let q = bind_ok (known name (drop reads slots)) (λ o. resolved locals slots index >>= λ i. resolved locals slots e >>= λ x. Ok (tree.Put o i x)) y p.2 in
        let u = bind_ok (resolved locals slots index) (λ i. resolved locals slots e >>= λ x. Ok (tree.Put q.0 i x)) y q.2 in
        let v = bind_ok (resolved locals slots e) (λ x. Ok (tree.Put q.0 u.0 x)) y u.2 in
        record { fits = p.1; o = q.0; output = q.1; i = u.0; index_found = u.1; x = v.0; found = v.1; is = same_ok (tree.Put q.0 u.0 v.0) y v.2 }

    pub put_fits : nodes + (1 + written_nodes index + written_nodes e) ≤ NODES
    put_fits = few_more (1 + written_nodes index + written_nodes e) put_parts.fits

  module _ (s t : ℕ) (name : Name) (index e : WrittenExpr) (y : StmtValue) (current' : List StmtValue)
      (sized : s ≡ written_nodes index) (sized' : t ≡ written_nodes e)
      (statement : put_statement before name index e ≡ Ok (stmt_of y)) (pushed : current' ≡ current ++ y ∷ [])
      (deep : 1 + written_brackets index ≤ DEPTH) (deep' : written_brackets e ≤ DEPTH) where
    pub put_taken : IsTaken (after_put before name index e) (taken_by reads slots nodes_before locals outer current') (length outer) (nodes + (1 + s + t))
    put_taken =
        let p = put_parts name index e (stmt_of y) statement in
        let q = resolved_is locals slots index p.i p.index_found in
        let r = resolved_is locals slots e p.x p.found in
        let w = whole reads slots k.slots_split in
        let there = known_there name (drop reads slots) p.o p.output in
        let lines : lines_in outer current' ≡ lines_in outer current ++ PutLine p.o p.i p.x ∷ [] =
        ap (lines_in outer) pushed
        ∙ lines_in-append outer current y
        ∙ ap (λ t. lines_in outer current ++ stmt_lines t) (sym p.is) in
        let next : IsNext reads slots locals locals (PutLine p.o p.i p.x) = record {
          order = (omega (arith, there.within, length-drop reads slots), subst (λ m. IsScoped m (length locals) p.i) w q.scoped, subst (λ m. IsScoped m (length locals) p.x) w r.scoped);
          numbered = refl;
          few_locals = k.few_locals;
          distinct = k.distinct_locals;
          brackets = omega (arith, q.brackets, r.brackets, deep, deep');
          count = omega arith;
        } in
        record {
          kept = kept_step reads slots nodes_before locals locals (lines_in outer current) (lines_in outer current') (length outer) (length outer) nodes (nodes + (1 + s + t)) (PutLine p.o p.i p.x) k next lines refl k.few_loops (omega (arith, q.nodes, r.nodes, sized, sized')) (omega (arith, sized, sized', few_more (1 + written_nodes index + written_nodes e) p.fits));
          is =
              bind_is (nodes_fit nodes_before (lines_nodes (lines_in outer current)) (1 + written_nodes index + written_nodes e)) (λ a. known name (drop reads slots) >>= λ o. resolved locals slots index >>= λ i. resolved locals slots e >>= λ x. Ok (with_line before locals (PutLine o i x))) tt _ p.fits
              (bind_is (known name (drop reads slots)) (λ o. resolved locals slots index >>= λ i. resolved locals slots e >>= λ x. Ok (with_line before locals (PutLine o i x))) p.o _ p.output
              (bind_is (resolved locals slots index) (λ i. resolved locals slots e >>= λ x. Ok (with_line before locals (PutLine p.o i x))) p.i _ p.index_found
              (bind_is (resolved locals slots e) (λ x. Ok (with_line before locals (PutLine p.o p.i x))) p.x _ p.found
              (ap (λ ls. ok_of (at_lines reads slots nodes_before locals ls)) (sym lines)))));
        }

  -- a `for`
  module _ (name : Name) (n : ℕ) (fits : for_fits before name n ≡ Ok tt) where
    pub record ForParts : Type 0 where
      pub nodes_more : nodes_fit nodes_before (lines_nodes (lines_in outer current)) 1 ≡ Ok tt
      pub room : loop_fits (loops_open (lines_in outer current)) n ≡ Ok tt
      pub local : local_fits locals (index_of name locals) ≡ Ok tt

    for_parts : ForParts
    for_parts =
        let p = bind_ok (nodes_fit nodes_before (lines_nodes (lines_in outer current)) 1) (λ a. loop_fits (loops_open (lines_in outer current)) n >>= λ b. local_fits locals (index_of name locals)) tt fits in
        let q = bind_ok (loop_fits (loops_open (lines_in outer current)) n) (λ b. local_fits locals (index_of name locals)) tt p.2 in
        record { nodes_more = p.1; room = q.1; local = q.2 }

    pub one_fits : nodes + 1 ≤ NODES
    one_fits = few_more 1 for_parts.nodes_more

  module _ (name : Name) (n : ℕ) (locals' : List Name) (outer' : List OpenLoop) (current' : List StmtValue)
      (fits : for_fits before name n ≡ Ok tt)
      (is_locals : locals' ≡ (numbered name locals (index_of name locals)).1)
      (pushed : outer' ≡ outer ++ opened_loop current (numbered name locals (index_of name locals)).0 n ∷ []) (is_empty : current' ≡ []) where
    abbrev for_local : ℕ
    for_local = (numbered name locals (index_of name locals)).0

    for_number : numbered name locals (index_of name locals) ≡ (for_local, locals')
    for_number = ap (λ (ls : List Name). (for_local, ls)) (sym is_locals)

    for_lines : lines_in outer' current' ≡ lines_in outer current ++ ForLine for_local n ∷ []
    for_lines =
        ap (λ e. lines_in outer' e) is_empty
        ∙ append-nil (outer_lines outer')
        ∙ ap outer_lines pushed
        ∙ outer_lines-append outer (opened_loop current for_local n)
        ∙ sym (append_assoc (outer_lines outer) (lines_of (statements_of current)) (ForLine for_local n ∷ []))

    pub for_taken : IsTaken (after_for before name n) (taken_by reads slots nodes_before locals' outer' current') (length outer') (nodes + 1)
    for_taken =
        let p = for_parts name n fits in
        let m = local_new name p.local for_local locals' for_number in
        let r = loop_fits-ok (loops_open (lines_in outer current)) n p.room in
        let longer : length outer' ≡ length outer + 1 = ap (λ (os : List OpenLoop). length os) pushed ∙ length-append outer _ in
        let next : IsNext reads slots locals locals' (ForLine for_local n) = record {
          order = m.next;
          numbered = m.count;
          few_locals = m.few;
          distinct = m.distinct;
          brackets = omega arith;
          count = r.1;
        } in
        record {
          kept = kept_step reads slots nodes_before locals locals' (lines_in outer current) (lines_in outer' current') (length outer) (length outer') nodes (nodes + 1) (ForLine for_local n) k next for_lines longer (omega (arith, longer, r.0, k.loops_counted)) refl (few_more 1 p.nodes_more);
          is =
              bind_is (nodes_fit nodes_before (lines_nodes (lines_in outer current)) 1) (λ a. loop_fits (loops_open (lines_in outer current)) n >>= λ b. local_fits locals (index_of name locals) >>= λ d. Ok (with_numbered before name (λ j. ForLine j n))) tt _ p.nodes_more
              (bind_is (loop_fits (loops_open (lines_in outer current)) n) (λ b. local_fits locals (index_of name locals) >>= λ d. Ok (with_numbered before name (λ j. ForLine j n))) tt _ p.room
              (bind_is (local_fits locals (index_of name locals)) (λ d. Ok (with_numbered before name (λ j. ForLine j n))) tt _ p.local
              (ap (λ (p : ℕ × List Name). ok_of (with_line before p.1 (ForLine p.0 n))) for_number
              ∙ ap (λ ls. ok_of (at_lines reads slots nodes_before locals' ls)) (sym for_lines))));
        }

  -- a `done`
  module _ (outer' : List OpenLoop) (o : OpenLoop) (turn current' : List StmtValue)
      (popped : outer ≡ outer' ++ o ∷ []) (is_turn : turn ≡ current) (pushed : current' ≡ o.before ++ statements.For o.local o.count turn ∷ []) where
    done_lines : lines_in outer' current' ≡ lines_in outer current ++ DoneLine ∷ []
    done_lines =
        let us : List Line = outer_lines outer' in
        let vs : List Line = lines_of (statements_of o.before) in
        let ws : List Line = lines_of (statements_of current) in
        let f : Line = ForLine o.local o.count in
        let left : lines_in outer' current' ≡ us ++ (vs ++ (f ∷ (ws ++ DoneLine ∷ []))) =
        ap (lines_in outer') pushed
        ∙ ap (λ l. us ++ l) (lines_of-append o.before (statements.For o.local o.count turn)
        ∙ ap (λ t. vs ++ stmt_lines t) (stmt_of-For o.local o.count turn)
        ∙ ap (λ t. vs ++ (f ∷ (lines_of (statements_of t) ++ DoneLine ∷ []))) is_turn) in
        let right : lines_in outer current ≡ (us ++ (vs ++ (f ∷ []))) ++ ws = ap (λ os. outer_lines os ++ ws) popped ∙ ap (λ l. l ++ ws) (outer_lines-append outer' o) in
        let regrouped : ((us ++ (vs ++ (f ∷ []))) ++ ws) ++ DoneLine ∷ [] ≡ us ++ (vs ++ (f ∷ (ws ++ DoneLine ∷ []))) = simp append_assoc in
        left ∙ sym regrouped ∙ ap (λ l. l ++ DoneLine ∷ []) (sym right)

    pub done_taken : IsTaken (after_done before) (taken_by reads slots nodes_before locals outer' current') (length outer') nodes
    done_taken =
        let one_more : length outer ≡ length outer' + 1 = ap (λ (os : List OpenLoop). length os) popped ∙ length-append outer' (o ∷ []) in
        let some : loops_open (lines_in outer current) ≢ 0 = λ e. omega (arith, e, one_more, k.loops_counted) in
        let next : IsNext reads slots locals locals DoneLine = record {
          order = tt;
          numbered = refl;
          few_locals = k.few_locals;
          distinct = k.distinct_locals;
          brackets = omega arith;
          count = omega arith;
        } in
        record {
          kept = kept_step reads slots nodes_before locals locals (lines_in outer current) (lines_in outer' current') (length outer) (length outer') nodes nodes DoneLine k next done_lines (omega (arith, one_more)) (omega (arith, one_more, k.few_loops)) (omega arith) k.few_nodes;
          is =
              ap (λ b. cond b (Err faults.Text) (Ok (with_line before locals DoneLine))) (ne_eqb (loops_open (lines_in outer current)) 0 some)
              ∙ ap (λ ls. ok_of (at_lines reads slots nodes_before locals ls)) (sym done_lines);
        }

  -- a `done` where no loop is open
  pub none_open : outer ≡ [] → after_done before ≡ Err faults.Text
  none_open e =
      let none : loops_open (lines_in outer current) ≡ 0 = sym k.loops_counted ∙ ap (λ (os : List OpenLoop). length os) e in
      ap (λ b. cond b (Err faults.Text) (Ok (with_line before locals DoneLine))) (eq-eqb (loops_open (lines_in outer current)) 0 none)

-- a slice from a place to the end
pub tail_is : (n : ℕ) (s xs : List Name) → s ≡ xs → take (length s - n) (drop n s) ≡ drop n xs
tail_is n s xs e =
    let l : length (drop n s) ≤ length s - n = omega (arith, length-drop n s) in
    take_all (length s - n) (drop n s) l ∙ ap (drop n) e
