-- Names and the numbers that they stand for.
use Rattle.std.specs.Prelude.{◌≡◌, ℕ, ◌+◌, List, [], ◌∷◌, Option, Some, None, Result, Ok, Err, if◌then◌else◌, bytes_eq}
use Rattle.pyr_num.specs.declared.name.Name.{Name}
use Rattle.pyr_body.specs.declared.line_fault.LineFault.{LineFault}
use Rattle.pyr_body.specs.declared.line_fault.LineFault.TheVariants.{Unknown, Memory}
use Rattle.pyr_body.specs.Tree.{Expr}
use Rattle.pyr_body.specs.Tree as tree
use Rattle.pyr_body.specs.Written.{WrittenExpr, Num, Local, Frame, Get, Bin, Sel}

-- What a function returned, seen by view, is this answer, unless memory ran out.
abbrev pub Answers : {X Y : Type 0} → (X → Y) → Result X LineFault → Result Y LineFault → Type 0
Answers view (Ok x) answer = answer ≡ Ok (view x)
Answers view (Err Memory) answer = Unit {0}
Answers view (Err fault) answer = answer ≡ Err fault

infixl 10 ◌>>=◌
abbrev pub ◌>>=◌ : {A B : Type 0}
    → Result A LineFault → (A → Result B LineFault) → Result B LineFault
(Ok x) >>= f = f x
(Err fault) >>= f = Err fault

abbrev pub index_from : ℕ → Name → List Name → Option ℕ
index_from i name [] = None
index_from i name (x ∷ xs) = if bytes_eq x name then Some i else index_from (i + 1) name xs

-- the first place of a name
abbrev pub index_of : Name → List Name → Option ℕ
index_of name names = index_from 0 name names

abbrev pub known_at : Name → Option ℕ → Result ℕ LineFault
known_at name (Some i) = Ok i
known_at name None = Err (Unknown name)

-- the number of a name, which has to be known
abbrev pub known : Name → List Name → Result ℕ LineFault
known name names = known_at name (index_of name names)

-- the expression over numbers, or the first name from the left that has none
module _ (locals slots : List Name) where
  abbrev pub resolved : WrittenExpr → Result Expr LineFault
  resolved (Num word) = Ok (tree.Num word)
  resolved (Local name) = do
    l ← known name locals
    Ok (tree.Local l)
  resolved Frame = Ok tree.Frame
  resolved (Get name index) = do
    slot ← known name slots
    i ← resolved index
    Ok (tree.Get slot i)
  resolved (Bin operator a b) = do
    x ← resolved a
    y ← resolved b
    Ok (tree.Bin operator x y)
  resolved (Sel c a b) = do
    z ← resolved c
    x ← resolved a
    y ← resolved b
    Ok (tree.Sel z x y)
