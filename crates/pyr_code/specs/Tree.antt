-- Code as a plain tree, with the cases of the enum `Op`.
use Rattle.std.specs.Prelude.{ℕ}
use Rattle.pyr_num.specs.declared.arithmetic.Bin.{Bin as Operator}

mutual
  -- an op; a loop has its local, its count of turns, and the code of a turn
  pub data Op : Type 0 where
    Push : ℕ → Op
    Load : ℕ → Op
    Store : ℕ → Op
    Frame : Op
    Get : ℕ → Op
    Put : ℕ → Op
    Bin : Operator → Op
    Sel : Op
    Loop : ℕ → ℕ → Code → Op

  -- code: ops, from the first to the last
  pub data Code : Type 0 where
    End : Code
    Then : Op → Code → Code
