-- A line of a body is taken or refused as the earlier lines of the body say.
use Rattle.std.proofs.Common.{◌≡◌, ℕ, zero, suc, ◌+◌, Bool, true, false, cond, ◌||◌, not, List, [], ◌∷◌, ◌++◌, drop, length, Option, Some, None, Result, Ok, Err, refl, sym, ap, subst, ◌∙◌, arith}
use Rattle.std.specs.Prelude.{nat_lt, nat_le, ◌==◌}
use Rattle.std.specs.Option.{option_or}
use Rattle.std.proofs.lemmas.Bool.{ne_eqb, le-leb}
use Rattle.std.proofs.lemmas.Bool.Decides.{leb_tells}
use Rattle.pyr_num.specs.declared.limits.Quantity.TheVariants as quantities
use Rattle.pyr_num.specs.declared.limits.TheConstants.Limits.{NODES, ALL_NODES, LOOPS, COUNT, LOCALS}
use Rattle.pyr_num.specs.declared.name.Name.{Name}
use Rattle.pyr_body.specs.declared.line_fault.LineFault.{LineFault as BodyFault}
use Rattle.pyr_body.specs.declared.line_fault.LineFault.TheVariants as body_faults
use Rattle.pyr_body.specs.Tree.{Expr}
use Rattle.pyr_body.specs.Tree as tree
use Rattle.pyr_body.specs.Lines.{Line, SetLine, PutLine, ForLine, lines_nodes, loops_open}
use Rattle.pyr_body.specs.Written.{WrittenExpr, Num, Local, Frame, Get, Bin, Sel, WrittenLine, Set, Put, For, Done, written_nodes}
use Rattle.pyr_body.specs.Names.{◌>>=◌, known_at, known, index_of, resolved}
use Rattle.pyr_body.specs.Taking.{LinesTaken, no_lines, refuse, limit, nodes_fit, loop_fits, local_fits, numbered as numbered_local, with_line, with_numbered, after_set, after_put, after_for, after_done, after_line}
use Rattle.pyr_body.proofs.NamedLemmas.{drop_front}
use Rattle.pyr_graphtext.specs.declared.line_fault.LineFault.{LineFault}
use Rattle.pyr_graphtext.specs.declared.line_fault.LineFault.TheVariants.{Text, Limit, Names}
use Rattle.pyr_graphtext.specs.declared.program_fault.NameKind.TheVariants.{Unknown}
use Rattle.pyr_graphtext.specs.Statements.{unless, is_among, place_of, with_name, locals_of, open_counts, nodes_of, expr_fault, unless_nodes_fit, unless_local_fits, statement_fault, numbered, numbered_lines}
use Rattle.pyr_graphtext.specs.Stands.{Stands}
use Rattle.pyr_graphtext.specs.BodyFaults.{told_by_body}
use Rattle.pyr_graphtext.proofs.Places.{index_of_is, place_of_none}
use Rattle.pyr_graphtext.proofs.Sizes.{nodes_of-numbered, open_counts-loops_open}

-- an answer is this value where there is no fault, and else this fault
abbrev pub Agrees : {A : Type 0} → Result A BodyFault → Option LineFault → A → Type 0
Agrees (Ok x) fault y = (fault ≡ None) × (x ≡ y)
Agrees (Err e) fault y = fault ≡ Some (told_by_body e)

pub agrees_bind : {A B : Type 0} (r : Result A BodyFault) (f : Option LineFault) (x : A) (k : A → Result B BodyFault) (g : Option LineFault) (y : B)
    → Agrees r f x → Agrees (k x) g y → Agrees (r >>= k) (option_or f g) y
agrees_bind {A} (Ok z) f x k g y h there = rw h.0 (subst (λ (v : A). Agrees (k v) g y) (sym h.1) there)
agrees_bind (Err e) f x k g y h there = rw h refl

-- one test, and then the others
pub unless_or : (b : Bool) (f : LineFault) (g : Option LineFault) → option_or (unless b f None) g ≡ unless b f g
unless_or true f g = refl
unless_or false f g = refl

agrees_test : {A B : Type 0} (r : Result A BodyFault) (b : Bool) (f : LineFault) (x : A) (k : A → Result B BodyFault) (g : Option LineFault) (y : B)
    → Agrees r (unless b f None) x → Agrees (k x) g y → Agrees (r >>= k) (unless b f g) y
agrees_test {A} {B} r b f x k g y h there = subst (λ (o : Option LineFault). Agrees (r >>= k) o y) (unless_or b f g) (agrees_bind r (unless b f None) x k g y h there)

-- a name that has to be known
known_agrees : (name : Name) (xs : List Name) → Agrees (known name xs) (unless (is_among xs name) (Names Unknown name) None) (place_of xs name)
known_agrees name xs = subst (λ (o : Option ℕ). Agrees (known_at name o) (unless (is_among xs name) (Names Unknown name) None) (place_of xs name)) (sym (index_of_is name xs)) (by_test (is_among xs name)) where
  by_test : (b : Bool) → Agrees (known_at name (cond b (Some (place_of xs name)) None)) (unless b (Names Unknown name) None) (place_of xs name)
  by_test true = (refl, refl)
  by_test false = refl

-- an expression
pub resolved_agrees : (locals slots : List Name) (e : WrittenExpr) → Agrees (resolved locals slots e) (expr_fault locals slots e) (numbered locals slots e)
resolved_agrees locals slots (Num word) = (refl, refl)
resolved_agrees locals slots (Local name) =
    agrees_test (known name locals) (is_among locals name) (Names Unknown name) (place_of locals name) (λ (l : ℕ). Ok (tree.Local l)) None (tree.Local (place_of locals name)) (known_agrees name locals) (refl, refl)
resolved_agrees locals slots Frame = (refl, refl)
resolved_agrees locals slots (Get name index) =
    agrees_test (known name slots) (is_among slots name) (Names Unknown name) (place_of slots name) (λ (s : ℕ). resolved locals slots index >>= λ (i : Expr). Ok (tree.Get s i)) (expr_fault locals slots index) (numbered locals slots (Get name index))
    (known_agrees name slots)
    (one (tree.Get (place_of slots name)) index (resolved_agrees locals slots index)) where
      one : (f : Expr → Expr) (e : WrittenExpr) → Agrees (resolved locals slots e) (expr_fault locals slots e) (numbered locals slots e) → Agrees (resolved locals slots e >>= λ (x : Expr). Ok (f x)) (expr_fault locals slots e) (f (numbered locals slots e))
      one f e h = by_result (resolved locals slots e) (expr_fault locals slots e) h where
        by_result : (r : Result Expr BodyFault) (o : Option LineFault) → Agrees r o (numbered locals slots e) → Agrees (r >>= λ (x : Expr). Ok (f x)) o (f (numbered locals slots e))
        by_result (Ok x) o k = (k.0, ap f k.1)
        by_result (Err x) o k = k
resolved_agrees locals slots (Bin operator a b) =
    agrees_bind (resolved locals slots a) (expr_fault locals slots a) (numbered locals slots a) (λ (x : Expr). resolved locals slots b >>= λ (y : Expr). Ok (tree.Bin operator x y)) (expr_fault locals slots b) (numbered locals slots (Bin operator a b))
    (resolved_agrees locals slots a)
    (last_one (tree.Bin operator (numbered locals slots a)) (resolved locals slots b) (expr_fault locals slots b) (numbered locals slots b) (resolved_agrees locals slots b)) where
      last_one : (f : Expr → Expr) (r : Result Expr BodyFault) (o : Option LineFault) (z : Expr) → Agrees r o z → Agrees (r >>= λ (x : Expr). Ok (f x)) o (f z)
      last_one f (Ok x) o z k = (k.0, ap f k.1)
      last_one f (Err x) o z k = k
resolved_agrees locals slots (Sel c a b) =
    agrees_bind (resolved locals slots c) (expr_fault locals slots c) (numbered locals slots c) (λ (z : Expr). resolved locals slots a >>= λ (x : Expr). resolved locals slots b >>= λ (y : Expr). Ok (tree.Sel z x y)) (option_or (expr_fault locals slots a) (expr_fault locals slots b)) (numbered locals slots (Sel c a b))
    (resolved_agrees locals slots c)
    (agrees_bind (resolved locals slots a) (expr_fault locals slots a) (numbered locals slots a) (λ (x : Expr). resolved locals slots b >>= λ (y : Expr). Ok (tree.Sel (numbered locals slots c) x y)) (expr_fault locals slots b) (numbered locals slots (Sel c a b))
    (resolved_agrees locals slots a)
    (last_one (tree.Sel (numbered locals slots c) (numbered locals slots a)) (resolved locals slots b) (expr_fault locals slots b) (numbered locals slots b) (resolved_agrees locals slots b))) where
      last_one : (f : Expr → Expr) (r : Result Expr BodyFault) (o : Option LineFault) (z : Expr) → Agrees r o z → Agrees (r >>= λ (x : Expr). Ok (f x)) o (f z)
      last_one f (Ok x) o z k = (k.0, ap f k.1)
      last_one f (Err x) o z k = k

pub ok_agrees : (f : Expr → LinesTaken) (r : Result Expr BodyFault) (o : Option LineFault) (z : Expr) → Agrees r o z → Agrees (r >>= λ (x : Expr). Ok (f x)) o (f z)
ok_agrees f (Ok x) o z k = (k.0, ap f k.1)
ok_agrees f (Err x) o z k = k

-- the limit that a test passes is the one that its negation keeps
lt_is : (m n : ℕ) → nat_lt m n ≡ not (nat_le n m)
lt_is m n = grind (arith, leb_tells)

refuse_agrees : (m n : ℕ) (e : BodyFault) → Agrees (refuse (nat_lt m n) e) (unless (nat_le n m) (told_by_body e) None) tt
refuse_agrees m n e = rw (lt_is m n) (by_test (nat_le n m)) where
  by_test : (b : Bool) → Agrees (refuse (not b) e) (unless b (told_by_body e) None) tt
  by_test true = (refl, refl)
  by_test false = refl

le_refuse_agrees : (m n : ℕ) (e : BodyFault) → Agrees (refuse (nat_le m n) e) (unless (nat_lt n m) (told_by_body e) None) tt
le_refuse_agrees m n e = rw (lt_is n m) (by_test (nat_le m n)) where
  by_test : (b : Bool) → Agrees (refuse b e) (unless (not b) (told_by_body e) None) tt
  by_test false = (refl, refl)
  by_test true = refl

nodes_agree : (before nodes added : ℕ) → Agrees (nodes_fit before nodes added) (unless_nodes_fit nodes (before + nodes) added None) tt
nodes_agree before nodes added = rw (lt_is NODES (nodes + added)) (by_test (nat_le (nodes + added) NODES)) where
  rest : Agrees (refuse (nat_lt ALL_NODES (before + nodes + added)) (limit quantities.AllNodes)) (unless (nat_le (before + nodes + added) ALL_NODES) (Limit quantities.AllNodes) None) tt
  rest = refuse_agrees ALL_NODES (before + nodes + added) (limit quantities.AllNodes)

  by_test : (b : Bool) → Agrees (cond (not b) (Err (limit quantities.Nodes)) (refuse (nat_lt ALL_NODES (before + nodes + added)) (limit quantities.AllNodes))) (unless b (Limit quantities.Nodes) (unless (nat_le (before + nodes + added) ALL_NODES) (Limit quantities.AllNodes) None)) tt
  by_test true = rest
  by_test false = refl

loops_agree : (loops count : ℕ) → Agrees (loop_fits loops count) (unless (nat_lt loops LOOPS) (Limit quantities.Loops) (unless (nat_le count COUNT) (Limit quantities.Count) None)) tt
loops_agree loops count = rw (lt_is loops LOOPS) (by_test (nat_le LOOPS loops)) where
  rest : Agrees (refuse (nat_lt COUNT count) (limit quantities.Count)) (unless (nat_le count COUNT) (Limit quantities.Count) None) tt
  rest = refuse_agrees COUNT count (limit quantities.Count)

  by_test : (b : Bool) → Agrees (cond b (Err (limit quantities.Loops)) (refuse (nat_lt COUNT count) (limit quantities.Count))) (unless (not b) (Limit quantities.Loops) (unless (nat_le count COUNT) (Limit quantities.Count) None)) tt
  by_test false = rest
  by_test true = refl

local_agrees : (locals : List Name) (name : Name) → Agrees (local_fits locals (index_of name locals)) (unless_local_fits locals name None) tt
local_agrees locals name = rw (index_of_is name locals) (by_test (is_among locals name)) where
  by_test : (b : Bool) → Agrees (local_fits locals (cond b (Some (place_of locals name)) None)) (unless (b || nat_lt (length locals) LOCALS) (Limit quantities.Locals) None) tt
  by_test true = (refl, refl)
  by_test false = le_refuse_agrees LOCALS (length locals) (limit quantities.Locals)

-- what was taken, and this line
abbrev pub grown : List Name → List Name → ℕ → List WrittenLine → WrittenLine → LinesTaken
grown reads writes before ws w = record {
  reads = length reads;
  slots = reads ++ writes;
  nodes_before = before;
  locals = locals_of (w ∷ ws);
  lines = numbered_lines reads writes (w ∷ ws);
}

-- what these lines come to
abbrev pub stood : List Name → List Name → ℕ → List WrittenLine → LinesTaken
stood reads writes before ws = record {
  reads = length reads;
  slots = reads ++ writes;
  nodes_before = before;
  locals = locals_of ws;
  lines = numbered_lines reads writes ws;
}

is_stood : (reads writes : List Name) (before : ℕ) (ws : List WrittenLine) (taken : LinesTaken) → Stands reads writes before ws taken → taken ≡ stood reads writes before ws
is_stood reads writes before ws taken s = λ i. record { reads = s.reads_count i; slots = s.slots i; nodes_before = s.before i; locals = s.locals i; lines = s.numbered i }

-- a local that is set gets its number
numbered_is : (locals : List Name) (name : Name) → numbered_local name locals (index_of name locals) ≡ (place_of locals name, with_name locals name)
numbered_is locals name = ap (numbered_local name locals) (index_of_is name locals) ∙ by_test (is_among locals name) refl where
  by_test : (b : Bool) → is_among locals name ≡ b → numbered_local name locals (cond b (Some (place_of locals name)) None) ≡ (place_of locals name, cond b locals (locals ++ name ∷ []))
  by_test true e = refl
  by_test false e = ap (λ (n : ℕ). (n, locals ++ name ∷ [])) (sym (place_of_none locals name e))

with_numbered_is : (reads writes : List Name) (before : ℕ) (ws : List WrittenLine) (name : Name) (line : ℕ → Line)
    → with_numbered (stood reads writes before ws) name line
    ≡ with_line (stood reads writes before ws) (with_name (locals_of ws) name) (line (place_of (locals_of ws) name))
with_numbered_is reads writes before ws name line =
    ap (λ (p : ℕ × List Name). with_line (stood reads writes before ws) p.1 (line p.0)) (numbered_is (locals_of ws) name)

nodes_agree_ws : (reads writes : List Name) (before : ℕ) (ws : List WrittenLine) (added : ℕ)
    → Agrees (nodes_fit before (lines_nodes (numbered_lines reads writes ws)) added) (unless_nodes_fit (nodes_of ws) (before + nodes_of ws) added None) tt
nodes_agree_ws reads writes before ws added =
    subst (λ (n : ℕ). Agrees (nodes_fit before n added) (unless_nodes_fit (nodes_of ws) (before + nodes_of ws) added None) tt) (nodes_of-numbered reads writes ws) (nodes_agree before (nodes_of ws) added)

nodes_or : (nodes all added : ℕ) (g : Option LineFault) → option_or (unless_nodes_fit nodes all added None) g ≡ unless_nodes_fit nodes all added g
nodes_or nodes all added g = by_tests (nat_le (nodes + added) NODES) (nat_le (all + added) ALL_NODES) where
  by_tests : (a b : Bool) → option_or (unless a (Limit quantities.Nodes) (unless b (Limit quantities.AllNodes) None)) g ≡ unless a (Limit quantities.Nodes) (unless b (Limit quantities.AllNodes) g)
  by_tests true true = refl
  by_tests true false = refl
  by_tests false b = refl

loops_or : (loops count : ℕ) (g : Option LineFault) → option_or (unless (nat_lt loops LOOPS) (Limit quantities.Loops) (unless (nat_le count COUNT) (Limit quantities.Count) None)) g
    ≡ unless (nat_lt loops LOOPS) (Limit quantities.Loops) (unless (nat_le count COUNT) (Limit quantities.Count) g)
loops_or loops count g = by_tests (nat_lt loops LOOPS) (nat_le count COUNT) where
  by_tests : (a b : Bool) → option_or (unless a (Limit quantities.Loops) (unless b (Limit quantities.Count) None)) g ≡ unless a (Limit quantities.Loops) (unless b (Limit quantities.Count) g)
  by_tests true true = refl
  by_tests true false = refl
  by_tests false b = refl

-- room for the nodes, and then the rest
after_nodes : {A : Type 0} (reads writes : List Name) (before : ℕ) (ws : List WrittenLine) (added : ℕ) (k : Result A BodyFault) (g : Option LineFault) (y : A)
    → Agrees k g y → Agrees (nodes_fit before (lines_nodes (numbered_lines reads writes ws)) added >>= λ (u : Unit {0}). k) (unless_nodes_fit (nodes_of ws) (before + nodes_of ws) added g) y
after_nodes {A} reads writes before ws added k g y h =
    subst (λ (o : Option LineFault). Agrees (nodes_fit before (lines_nodes (numbered_lines reads writes ws)) added >>= λ (u : Unit {0}). k) o y)
    (nodes_or (nodes_of ws) (before + nodes_of ws) added g)
    (agrees_bind (nodes_fit before (lines_nodes (numbered_lines reads writes ws)) added) (unless_nodes_fit (nodes_of ws) (before + nodes_of ws) added None) tt (λ (u : Unit {0}). k) g y (nodes_agree_ws reads writes before ws added) h)

after_local : {A : Type 0} (locals : List Name) (name : Name) (k : Result A BodyFault) (g : Option LineFault) (y : A)
    → Agrees k g y → Agrees (local_fits locals (index_of name locals) >>= λ (u : Unit {0}). k) (unless_local_fits locals name g) y
after_local {A} locals name k g y h =
    agrees_test (local_fits locals (index_of name locals)) (is_among locals name || nat_lt (length locals) LOCALS) (Limit quantities.Locals) tt (λ (u : Unit {0}). k) g y (local_agrees locals name) h

set_agrees : (reads writes : List Name) (before : ℕ) (ws : List WrittenLine) (name : Name) (e : WrittenExpr)
    → Agrees (after_set (stood reads writes before ws) name e) (statement_fault reads writes (before + nodes_of ws) ws (Set name e)) (grown reads writes before ws (Set name e))
unfolding statement_fault
set_agrees reads writes before ws name e =
    let slots : List Name = reads ++ writes in
    let locals : List Name = locals_of ws in
    let last : Agrees (resolved locals slots e >>= λ (x : Expr). Ok (with_numbered (stood reads writes before ws) name (λ l. SetLine l x))) (expr_fault locals slots e) (with_numbered (stood reads writes before ws) name (λ l. SetLine l (numbered locals slots e))) =
    ok_agrees (λ (x : Expr). with_numbered (stood reads writes before ws) name (λ l. SetLine l x)) (resolved locals slots e) (expr_fault locals slots e) (numbered locals slots e) (resolved_agrees locals slots e) in
    let goal : Agrees (resolved locals slots e >>= λ (x : Expr). Ok (with_numbered (stood reads writes before ws) name (λ l. SetLine l x))) (expr_fault locals slots e) (grown reads writes before ws (Set name e)) =
    subst (λ (t : LinesTaken). Agrees (resolved locals slots e >>= λ (x : Expr). Ok (with_numbered (stood reads writes before ws) name (λ l. SetLine l x))) (expr_fault locals slots e) t) (with_numbered_is reads writes before ws name (λ l. SetLine l (numbered locals slots e))) last in
    after_nodes reads writes before ws (1 + written_nodes e) _ _ _ (after_local locals name _ _ _ goal)

put_agrees : (reads writes : List Name) (before : ℕ) (ws : List WrittenLine) (name : Name) (index e : WrittenExpr)
    → Agrees (after_put (stood reads writes before ws) name index e) (statement_fault reads writes (before + nodes_of ws) ws (Put name index e)) (grown reads writes before ws (Put name index e))
unfolding statement_fault
put_agrees reads writes before ws name index e =
    let slots : List Name = reads ++ writes in
    let locals : List Name = locals_of ws in
    let taken : LinesTaken = stood reads writes before ws in
    let x : Expr = numbered locals slots e in
    let i : Expr = numbered locals slots index in
    let o : ℕ = place_of writes name in
    let value : Agrees (resolved locals slots e >>= λ (v : Expr). Ok (with_line taken locals (PutLine o i v))) (expr_fault locals slots e) (with_line taken locals (PutLine o i x)) =
    ok_agrees (λ (v : Expr). with_line taken locals (PutLine o i v)) (resolved locals slots e) (expr_fault locals slots e) x (resolved_agrees locals slots e) in
    let both : Agrees (resolved locals slots index >>= λ (j : Expr). resolved locals slots e >>= λ (v : Expr). Ok (with_line taken locals (PutLine o j v))) (option_or (expr_fault locals slots index) (expr_fault locals slots e)) (with_line taken locals (PutLine o i x)) =
    agrees_bind (resolved locals slots index) (expr_fault locals slots index) i (λ (j : Expr). resolved locals slots e >>= λ (v : Expr). Ok (with_line taken locals (PutLine o j v))) (expr_fault locals slots e) (with_line taken locals (PutLine o i x)) (resolved_agrees locals slots index) value in
    let output : Agrees (known name (drop (length reads) slots)) (unless (is_among writes name) (Names Unknown name) None) o =
    subst (λ (ns : List Name). Agrees (known name ns) (unless (is_among writes name) (Names Unknown name) None) o) (sym (drop_front reads writes)) (known_agrees name writes) in
    after_nodes reads writes before ws (1 + written_nodes index + written_nodes e) _ _ _
    (agrees_test (known name (drop (length reads) slots)) (is_among writes name) (Names Unknown name) o (λ (p : ℕ). resolved locals slots index >>= λ (j : Expr). resolved locals slots e >>= λ (v : Expr). Ok (with_line taken locals (PutLine p j v))) (option_or (expr_fault locals slots index) (expr_fault locals slots e)) (with_line taken locals (PutLine o i x)) output both)

for_agrees : (reads writes : List Name) (before : ℕ) (ws : List WrittenLine) (name : Name) (count : ℕ)
    → Agrees (after_for (stood reads writes before ws) name count) (statement_fault reads writes (before + nodes_of ws) ws (For name count)) (grown reads writes before ws (For name count))
unfolding statement_fault
for_agrees reads writes before ws name count =
    let locals : List Name = locals_of ws in
    let taken : LinesTaken = stood reads writes before ws in
    let lines : List Line = numbered_lines reads writes ws in
    let last : Result LinesTaken BodyFault = Ok (with_numbered taken name (λ l. ForLine l count)) in
    let goal : Agrees last None (grown reads writes before ws (For name count)) = (refl, with_numbered_is reads writes before ws name (λ l. ForLine l count)) in
    let rest : Agrees (local_fits locals (index_of name locals) >>= λ (u : Unit {0}). last) (unless_local_fits locals name None) (grown reads writes before ws (For name count)) = after_local locals name last None (grown reads writes before ws (For name count)) goal in
    let fits : Agrees (loop_fits (loops_open lines) count) (unless (nat_lt (length (open_counts ws)) LOOPS) (Limit quantities.Loops) (unless (nat_le count COUNT) (Limit quantities.Count) None)) tt =
    subst (λ (n : ℕ). Agrees (loop_fits n count) (unless (nat_lt (length (open_counts ws)) LOOPS) (Limit quantities.Loops) (unless (nat_le count COUNT) (Limit quantities.Count) None)) tt) (open_counts-loops_open reads writes ws) (loops_agree (length (open_counts ws)) count) in
    after_nodes reads writes before ws 1 _ _ _
    (subst (λ (o : Option LineFault). Agrees (loop_fits (loops_open lines) count >>= λ (u : Unit {0}). local_fits locals (index_of name locals) >>= λ (v : Unit {0}). last) o (grown reads writes before ws (For name count)))
    (loops_or (length (open_counts ws)) count (unless_local_fits locals name None))
    (agrees_bind (loop_fits (loops_open lines) count) (unless (nat_lt (length (open_counts ws)) LOOPS) (Limit quantities.Loops) (unless (nat_le count COUNT) (Limit quantities.Count) None)) tt (λ (u : Unit {0}). local_fits locals (index_of name locals) >>= λ (v : Unit {0}). last) (unless_local_fits locals name None) (grown reads writes before ws (For name count)) fits rest))

done_agrees : (reads writes : List Name) (before : ℕ) (ws : List WrittenLine)
    → Agrees (after_done (stood reads writes before ws)) (statement_fault reads writes (before + nodes_of ws) ws Done) (grown reads writes before ws Done)
unfolding statement_fault
done_agrees reads writes before ws =
    subst (λ (n : ℕ). Agrees (cond (n == 0) (Err body_faults.Text) (Ok (grown reads writes before ws Done))) (unless (nat_lt 0 (length (open_counts ws))) Text None) (grown reads writes before ws Done)) (open_counts-loops_open reads writes ws) (by_count (length (open_counts ws))) where
      by_count : (n : ℕ) → Agrees (cond (n == 0) (Err body_faults.Text) (Ok (grown reads writes before ws Done))) (unless (nat_lt 0 n) Text None) (grown reads writes before ws Done)
      by_count zero = refl
      by_count (suc n) =
          let some : (suc n == 0) ≡ false = ne_eqb (suc n) 0 (λ e. omega (arith, e)) in
          let more : nat_lt 0 (suc n) ≡ true = le-leb 1 (suc n) (omega arith) in
          rw (some, more) (refl, refl)

line_agrees : (reads writes : List Name) (before : ℕ) (ws : List WrittenLine) (w : WrittenLine)
    → Agrees (after_line (stood reads writes before ws) w) (statement_fault reads writes (before + nodes_of ws) ws w) (grown reads writes before ws w)
line_agrees reads writes before ws (Set name e) = set_agrees reads writes before ws name e
line_agrees reads writes before ws (Put name index e) = put_agrees reads writes before ws name index e
line_agrees reads writes before ws (For name count) = for_agrees reads writes before ws name count
line_agrees reads writes before ws Done = done_agrees reads writes before ws

-- no line yet
pub stands_none : (reads writes : List Name) (before : ℕ) → Stands reads writes before [] (no_lines reads writes before)
stands_none reads writes before = record { reads_count = refl; slots = refl; before = refl; locals = refl; numbered = refl }

-- a line that is taken has no fault
pub taken_on : (reads writes : List Name) (before : ℕ) (ws : List WrittenLine) (taken next : LinesTaken) (w : WrittenLine)
    → Stands reads writes before ws taken → after_line taken w ≡ Ok next
    → (statement_fault reads writes (before + nodes_of ws) ws w ≡ None) × Stands reads writes before (w ∷ ws) next
taken_on reads writes before ws taken next w s h =
    let e : after_line (stood reads writes before ws) w ≡ Ok next = ap (λ (t : LinesTaken). after_line t w) (sym (is_stood reads writes before ws taken s)) ∙ h in
    let a : Agrees (Ok next) (statement_fault reads writes (before + nodes_of ws) ws w) (grown reads writes before ws w) =
    subst (λ (r : Result LinesTaken BodyFault). Agrees r (statement_fault reads writes (before + nodes_of ws) ws w) (grown reads writes before ws w)) e (line_agrees reads writes before ws w) in (
      a.0,
      record {
        reads_count = ap (λ (t : LinesTaken). t.reads) a.1;
        slots = ap (λ (t : LinesTaken). t.slots) a.1;
        before = ap (λ (t : LinesTaken). t.nodes_before) a.1;
        locals = ap (λ (t : LinesTaken). t.locals) a.1;
        numbered = ap (λ (t : LinesTaken). t.lines) a.1;
      },
    )

-- a line that is refused has this fault
pub refused_on : (reads writes : List Name) (before : ℕ) (ws : List WrittenLine) (taken : LinesTaken) (fault : BodyFault) (w : WrittenLine)
    → Stands reads writes before ws taken → after_line taken w ≡ Err fault
    → statement_fault reads writes (before + nodes_of ws) ws w ≡ Some (told_by_body fault)
refused_on reads writes before ws taken fault w s h =
    let e : after_line (stood reads writes before ws) w ≡ Err fault = ap (λ (t : LinesTaken). after_line t w) (sym (is_stood reads writes before ws taken s)) ∙ h in
    subst (λ (r : Result LinesTaken BodyFault). Agrees r (statement_fault reads writes (before + nodes_of ws) ws w) (grown reads writes before ws w)) e (line_agrees reads writes before ws w)
