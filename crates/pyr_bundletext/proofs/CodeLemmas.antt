-- What code with one op more has.
use Rattle.std.proofs.Common.{◌≡◌, ℕ, ◌+◌, ◌<◌, ◌≤◌, List, [], ◌∷◌, ◌++◌, length, get_or, drop, reverse, refl, sym, ap, ◌∙◌, arith, min, max}
use Rattle.pyr_num.specs.declared.work.TheConstants.{TOO_MUCH}
use Rattle.pyr_code.specs.declared.op.Op.{Op as OpValue}
use Rattle.std.proofs.lemmas.List.{reverse-append}
use Rattle.std.proofs.lemmas.List.Sums.{sum_by-cons}
use Rattle.pyr_code.specs.Tree.{Op}
use Rattle.pyr_code.specs.Tree as tree
use Rattle.pyr_code.specs.Seen.{op_of, code_of}
use Rattle.pyr_code.proofs.SeenLemmas.{op_of-Push, op_of-Load, op_of-Store, op_of-Frame, op_of-Get, op_of-Put, op_of-Bin, op_of-Sel, op_of-Loop, left_more}
use Rattle.pyr_code.specs.Size.{op_nodes, code_nodes, op_loops, code_loops, op_count, code_count, op_work, code_work}
use Rattle.pyr_code.specs.declared.op.Op.TheVariants as ops
use Rattle.pyr_bundletext.specs.declared.plain_op.PlainOp.{PlainOp}
use Rattle.pyr_bundletext.specs.declared.plain_op.PlainOp.TheVariants.{Push, Load, Store, Frame, Get, Put, Bin, Sel}
use Rattle.pyr_bundletext.specs.declared.open_loop.OpenLoop.{OpenLoop}
use Rattle.pyr_bundletext.specs.Earlier.{Nest, plain_op, with_op, with_loop, ended}
use Rattle.pyr_bundletext.specs.Faults.{nodes_in, nodes_around}

pub nodes_more : (ops : List OpValue) (op : OpValue)
    → code_nodes (code_of (ops ++ op ∷ [])) ≡ code_nodes (code_of ops) + op_nodes (op_of op)
nodes_more [] op = omega arith
nodes_more (o ∷ ops) op = omega (arith, nodes_more ops op)

pub loops_more : (ops : List OpValue) (op : OpValue)
    → code_loops (code_of (ops ++ op ∷ [])) ≡ max (code_loops (code_of ops)) (op_loops (op_of op))
loops_more [] op = omega arith
loops_more (o ∷ ops) op = omega (arith, loops_more ops op)

pub count_more : (ops : List OpValue) (op : OpValue)
    → code_count (code_of (ops ++ op ∷ [])) ≡ max (code_count (code_of ops)) (op_count (op_of op))
count_more [] op = omega arith
count_more (o ∷ ops) op = omega (arith, count_more ops op)

-- an op that is no loop, as a tree
abbrev pub plain_tree : PlainOp → Op
plain_tree (Push word) = tree.Push word
plain_tree (Load l) = tree.Load l
plain_tree (Store l) = tree.Store l
plain_tree Frame = tree.Frame
plain_tree (Get slot) = tree.Get slot
plain_tree (Put output) = tree.Put output
plain_tree (Bin operator) = tree.Bin operator
plain_tree Sel = tree.Sel

pub plain_seen : (op : PlainOp) → op_of (plain_op op) ≡ plain_tree op
plain_seen (Push word) = op_of-Push word
plain_seen (Load l) = op_of-Load l
plain_seen (Store l) = op_of-Store l
plain_seen Frame = op_of-Frame
plain_seen (Get slot) = op_of-Get slot
plain_seen (Put output) = op_of-Put output
plain_seen (Bin operator) = op_of-Bin operator
plain_seen Sel = op_of-Sel

tree_nodes : (op : PlainOp) → op_nodes (plain_tree op) ≡ 1
tree_nodes (Push word) = refl
tree_nodes (Load l) = refl
tree_nodes (Store l) = refl
tree_nodes Frame = refl
tree_nodes (Get slot) = refl
tree_nodes (Put output) = refl
tree_nodes (Bin operator) = refl
tree_nodes Sel = refl

plain_nodes : (op : PlainOp) → op_nodes (op_of (plain_op op)) ≡ 1
plain_nodes op = ap op_nodes (plain_seen op) ∙ tree_nodes op

-- how many ops there are with one op more, with a loop opened, and with one ended
pub with_op_nodes : (nest : Nest) (op : PlainOp) → nodes_in (with_op nest (plain_op op)) ≡ nodes_in nest + 1
with_op_nodes nest op = omega (arith, nodes_more nest.current (plain_op op), plain_nodes op)

pub with_loop_nodes : (nest : Nest) (l count : ℕ) → nodes_in (with_loop nest l count) ≡ nodes_in nest + 1
with_loop_nodes nest l count =
    omega (arith, sum_by-cons (λ (o : OpenLoop). code_nodes (code_of o.before) + 1) (record { before = nest.current; local = l; count = count }) nest.outer)

pub ended_nodes : (outer : List OpenLoop) (current : List OpValue)
    → nodes_in (ended outer current) ≡ nodes_around outer + code_nodes (code_of current)
ended_nodes [] current = refl
ended_nodes (o ∷ outer) current =
    omega (
      arith,
      sum_by-cons (λ (x : OpenLoop). code_nodes (code_of x.before) + 1) o outer,
      nodes_more o.before (ops.Loop o.local o.count current),
      ap op_nodes (op_of-Loop o.local o.count current),
    )

-- the ops of an ended loop were those of an open one
pub close_nodes : (outer rest : List OpenLoop) (o : OpenLoop) (current more : List OpValue)
    → outer ≡ rest ++ o ∷ [] → more ≡ o.before ++ ops.Loop o.local o.count current ∷ []
    → nodes_in (record { outer = reverse outer; current = current }) ≡ nodes_in (record { outer = reverse rest; current = more })
close_nodes outer rest o current more e f =
    let turned : reverse outer ≡ o ∷ reverse rest = ap reverse e ∙ reverse-append rest (o ∷ []) in
    rw (turned, f) (sym (ended_nodes (o ∷ reverse rest) current))

-- the limit of all ops, with one op more
pub one_node : (nodes all n m limit : ℕ) → nodes ≡ all → all + n < limit → m ≡ n + 1 → nodes + m ≤ limit
one_node nodes all n m limit e l f = omega arith

-- the capped work of one op more
pub capped_more : (ops : List OpValue) (k : ℕ) (item : OpValue) (sum one next all : ℕ) → k < length ops → item ≡ get_or ops k item → one ≡ min (op_work (op_of item)) TOO_MUCH → next ≡ min (sum + one) TOO_MUCH → min (sum + code_work (code_of (drop k ops))) TOO_MUCH ≡ all
    → (min (next + code_work (code_of (drop (k + 1) ops))) TOO_MUCH ≡ all) × (next ≤ TOO_MUCH)
capped_more ops k item sum one next all l is o n before =
    let left : code_work (code_of (drop k ops)) ≡ op_work (op_of item) + code_work (code_of (drop (k + 1) ops)) = ap (λ (xs : List OpValue). code_work (code_of xs)) (left_more ops k item l is) in
    (omega arith, omega arith)
