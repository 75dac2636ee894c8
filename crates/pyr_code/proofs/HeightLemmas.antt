-- The greatest height of fine code.
use Rattle.std.proofs.Common.{◌≡◌, ℕ, ◌+◌, ◌<◌, ◌≤◌, max, List, [], ◌∷◌, length, get_or, drop, sym, ap, subst, ◌∙◌, arith}
use Rattle.std.proofs.lemmas.List.{drop_all}
use Rattle.pyr_code.specs.declared.op.Op.{Op as OpValue}
use Rattle.pyr_code.specs.declared.shape.Shape.{Shape}
use Rattle.pyr_code.specs.declared.stack.TheConstants.{MAX_HEIGHT}
use Rattle.pyr_code.specs.Tree.{Op, Push, Load, Store, Frame, Get, Put, Bin, Sel, Loop, Code, End, Then}
use Rattle.pyr_code.specs.Height.{height_after_op, height_after, greatest_height, greatest_height_op}
use Rattle.pyr_code.specs.Seen.{op_of, code_of}
use Rattle.pyr_code.proofs.SeenLemmas.{left_more}
use Rattle.pyr_code.specs.WellFormed.{IsFine, IsFineOp}

-- the height at the start counts
mutual
  pub greatest_height_op-from : (op : Op) (h : ℕ) → h ≤ greatest_height_op op h
  greatest_height_op-from (Loop l count turn) h = greatest_height-from turn h
  greatest_height_op-from op h = omega arith

  pub greatest_height-from : (code : Code) (h : ℕ) → h ≤ greatest_height code h
  greatest_height-from End h = omega arith
  greatest_height-from (Then op rest) h = omega (arith, greatest_height_op-from op h)

-- fine code stays low
module _ (reads writes locals : ℕ) where
  pub height_after_op-low : (op : Op) (h : ℕ) → h ≤ MAX_HEIGHT → IsFineOp reads writes locals op h → height_after_op op h ≤ MAX_HEIGHT
  height_after_op-low (Push word) h low fine = omega arith
  height_after_op-low (Load l) h low fine = omega (arith, fine.1)
  height_after_op-low (Store l) h low fine = omega arith
  height_after_op-low Frame h low fine = omega arith
  height_after_op-low (Get slot) h low fine = omega (arith, fine.1)
  height_after_op-low (Put output) h low fine = omega arith
  height_after_op-low (Bin operator) h low fine = omega arith
  height_after_op-low Sel h low fine = omega arith
  height_after_op-low (Loop l count turn) h low fine = omega arith

  mutual
    pub greatest_height_op-low : (op : Op) (h : ℕ) → h ≤ MAX_HEIGHT → IsFineOp reads writes locals op h → greatest_height_op op h ≤ MAX_HEIGHT
    greatest_height_op-low (Push word) h low fine = omega arith
    greatest_height_op-low (Load l) h low fine = omega (arith, fine.1)
    greatest_height_op-low (Store l) h low fine = omega arith
    greatest_height_op-low Frame h low fine = omega arith
    greatest_height_op-low (Get slot) h low fine = omega (arith, fine.1)
    greatest_height_op-low (Put output) h low fine = omega arith
    greatest_height_op-low (Bin operator) h low fine = omega arith
    greatest_height_op-low Sel h low fine = omega arith
    greatest_height_op-low (Loop l count turn) h low fine = greatest_height-low turn h low fine.1

    pub greatest_height-low : (code : Code) (h : ℕ) → h ≤ MAX_HEIGHT → IsFine reads writes locals code h → greatest_height code h ≤ MAX_HEIGHT
    greatest_height-low End h low fine = low
    greatest_height-low (Then op rest) h low fine =
        omega (arith, greatest_height_op-low op h low fine.0, greatest_height-low rest (height_after_op op h) (height_after_op-low op h low fine.0) fine.1)

-- an op reaches the height that it leaves
reached-op : (op : Op) (h : ℕ) → height_after_op op h ≤ greatest_height_op op h
reached-op (Loop l count turn) h = let from = greatest_height-from turn h in omega arith
reached-op op h = omega arith

-- the height h0 before the ops, h before those that are left, and the greatest between the two
pub record Measured (shape : Shape) (left all : List OpValue) (h0 h peak : ℕ) : Type 0 where
  pub after : height_after (code_of left) h ≡ height_after (code_of all) h0
  pub greatest : max peak (greatest_height (code_of left) h) ≡ greatest_height (code_of all) h0
  pub reached : h ≤ peak
  pub low : h ≤ MAX_HEIGHT
  pub fine : IsFine shape.reads shape.writes shape.locals (code_of left) h

-- one op more
pub measured_more : (shape : Shape) (ops : List OpValue) (k : ℕ) (item : OpValue) (h0 h peak next top new : ℕ) → k < length ops → item ≡ get_or ops k item → Measured shape (drop k ops) ops h0 h peak →
    next ≡ height_after_op (op_of item) h → top ≡ greatest_height_op (op_of item) h → next ≤ MAX_HEIGHT → new ≡ max peak top → Measured shape (drop (k + 1) ops) ops h0 next new
measured_more shape ops k item h0 h peak next top new l is before n t low e =
    let rest : List OpValue = drop (k + 1) ops in
    let m : Measured shape (item ∷ rest) ops h0 h peak = subst (λ (xs : List OpValue). Measured shape xs ops h0 h peak) (left_more ops k item l is) before in
    record {
      after = ap (height_after (code_of rest)) n ∙ m.after;
      greatest = let q : greatest_height (code_of rest) next ≡ greatest_height (code_of rest) (height_after_op (op_of item) h) = ap (greatest_height (code_of rest)) n in let g = m.greatest in omega arith;
      reached = let r = reached-op (op_of item) h in omega arith;
      low = low;
      fine = subst (IsFine shape.reads shape.writes shape.locals (code_of rest)) (sym n) m.fine.1;
    }

-- no op left
pub measured_all : (shape : Shape) (ops : List OpValue) (k h0 h peak : ℕ) → length ops ≤ k → Measured shape (drop k ops) ops h0 h peak → (h ≡ height_after (code_of ops) h0) × (peak ≡ greatest_height (code_of ops) h0) × (h ≤ MAX_HEIGHT)
measured_all shape ops k h0 h peak l before =
    let m : Measured shape [] ops h0 h peak = subst (λ (xs : List OpValue). Measured shape xs ops h0 h peak) (drop_all k ops l) before in
    (m.after, let g = m.greatest in let r = m.reached in omega arith, m.low)
