-- A body as the list of its lines: what a line may name depends on the lines before it.
use Rattle.std.specs.Prelude.{ℕ, ◌+◌, ◌-◌, ◌≤◌, ◌<◌, max, ⊤, List, [], ◌∷◌, ◌++◌}
use Rattle.pyr_body.specs.Tree.{Expr, Stmt, Set, Put, For, Statements, End, Then}
use Rattle.pyr_body.specs.Size.{expr_nodes, expr_brackets}
use Rattle.pyr_body.specs.Scope.{IsScoped}

-- a line: a `set`, a `put`, a `for` that opens a loop, or the `done` that closes the innermost one
pub data Line : Type 0 where
  SetLine : ℕ → Expr → Line
  PutLine : ℕ → Expr → Expr → Line
  ForLine : ℕ → ℕ → Line
  DoneLine : Line

abbrev mutual
  -- the lines of a statement
  pub stmt_lines : Stmt → List Line
  stmt_lines (Set l e) = SetLine l e ∷ []
  stmt_lines (Put output index e) = PutLine output index e ∷ []
  stmt_lines (For l count turn) = ForLine l count ∷ (lines_of turn ++ DoneLine ∷ [])

  -- the lines of statements
  pub lines_of : Statements → List Line
  lines_of End = []
  lines_of (Then s rest) = stmt_lines s ++ lines_of rest

-- how many locals have a number behind a line: `set` and `for` give the next local its number
abbrev pub numbered_after : Line → ℕ → ℕ
numbered_after (SetLine l e) n = max n (l + 1)
numbered_after (PutLine output index e) n = n
numbered_after (ForLine l count) n = max n (l + 1)
numbered_after DoneLine n = n

-- the same behind lines
abbrev pub all_numbered_after : List Line → ℕ → ℕ
all_numbered_after [] n = n
all_numbered_after (line ∷ rest) n = all_numbered_after rest (numbered_after line n)

module _ (reads writes : ℕ) where
  -- Where so many locals have a number, a line reads these alone, and `set` and `for` name one of
  -- them or the next.
  abbrev pub IsInOrder : Line → ℕ → Type 0
  IsInOrder (SetLine l e) n = (l ≤ n) × IsScoped (reads + writes) n e
  IsInOrder (PutLine output index e) n =
      (output < writes) × IsScoped (reads + writes) n index × IsScoped (reads + writes) n e
  IsInOrder (ForLine l count) n = l ≤ n
  IsInOrder DoneLine n = ⊤

  -- each line, where those before it gave their numbers
  abbrev pub AreInOrder : List Line → ℕ → Type 0
  AreInOrder [] n = ⊤
  AreInOrder (line ∷ rest) n = IsInOrder line n × AreInOrder rest (numbered_after line n)

-- the nodes that lines bring; a `done` brings none
abbrev pub line_nodes : Line → ℕ
line_nodes (SetLine l e) = 1 + expr_nodes e
line_nodes (PutLine output index e) = 1 + expr_nodes index + expr_nodes e
line_nodes (ForLine l count) = 1
line_nodes DoneLine = 0

abbrev pub lines_nodes : List Line → ℕ
lines_nodes [] = 0
lines_nodes (line ∷ rest) = line_nodes line + lines_nodes rest

-- how many brackets are open at once, at most, where a line is written, and each of the lines
abbrev pub line_brackets : Line → ℕ
line_brackets (SetLine l e) = expr_brackets e
line_brackets (PutLine output index e) = max (1 + expr_brackets index) (expr_brackets e)
line_brackets (ForLine l count) = 0
line_brackets DoneLine = 0

abbrev pub lines_depth : List Line → ℕ
lines_depth [] = 0
lines_depth (line ∷ rest) = max (line_brackets line) (lines_depth rest)

-- the greatest count of a loop
abbrev pub line_count : Line → ℕ
line_count (ForLine l count) = count
line_count line = 0

abbrev pub lines_count : List Line → ℕ
lines_count [] = 0
lines_count (line ∷ rest) = max (line_count line) (lines_count rest)

-- how many loops are open behind a line, where so many were
abbrev pub opened_after : Line → ℕ → ℕ
opened_after (ForLine l count) open_loops = open_loops + 1
opened_after DoneLine open_loops = open_loops - 1
opened_after line open_loops = open_loops

-- the same behind lines
abbrev pub all_opened_after : List Line → ℕ → ℕ
all_opened_after [] open_loops = open_loops
all_opened_after (line ∷ rest) open_loops = all_opened_after rest (opened_after line open_loops)

-- how many loops are open behind lines of which the first is a body's first
abbrev pub loops_open : List Line → ℕ
loops_open lines = all_opened_after lines 0

-- the greatest number of loops that are open at once, where so many are
abbrev pub loops_from : List Line → ℕ → ℕ
loops_from [] open_loops = open_loops
loops_from (line ∷ rest) open_loops =
    max open_loops (loops_from rest (opened_after line open_loops))
