-- The slots and locals that expressions and statements name exist.
use Rattle.std.specs.Prelude.{ℕ, ◌+◌, ◌<◌, ⊤}
use Rattle.pyr_body.specs.Tree.{Expr, Num, Local, Frame, Get, Bin, Sel, Stmt, Set, Put, For, Statements, End, Then}

-- an expression names one of so many slots and locals
abbrev pub IsScoped : ℕ → ℕ → Expr → Type 0
IsScoped slots locals (Num word) = ⊤
IsScoped slots locals (Local l) = l < locals
IsScoped slots locals Frame = ⊤
IsScoped slots locals (Get slot index) = (slot < slots) × IsScoped slots locals index
IsScoped slots locals (Bin operator a b) = IsScoped slots locals a × IsScoped slots locals b
IsScoped slots locals (Sel c a b) =
    IsScoped slots locals c × IsScoped slots locals a × IsScoped slots locals b

-- the same of statements, where so many data are read and written
module _ (reads writes locals : ℕ) where
  abbrev mutual
    pub IsStmtScoped : Stmt → Type 0
    IsStmtScoped (Set l e) = (l < locals) × IsScoped (reads + writes) locals e
    IsStmtScoped (Put output index e) =
        (output < writes) × IsScoped (reads + writes) locals index
        × IsScoped (reads + writes) locals e
    IsStmtScoped (For l count turn) = (l < locals) × AreScoped turn

    pub AreScoped : Statements → Type 0
    AreScoped End = ⊤
    AreScoped (Then s rest) = IsStmtScoped s × AreScoped rest
