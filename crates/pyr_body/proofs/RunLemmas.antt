-- What the loops of the evaluator keep.
use Rattle.std.proofs.Common.{◌≡◌, ℕ, zero, suc, List, [], ◌∷◌, length, map, replicate, take, ◌≤◌, refl, ap, sym, ◌∙◌}
use Rattle.std.proofs.lemmas.List.{take-replicate, length-set}
use Rattle.pyr_num.specs.Cells.{CellLists, with_word}
use Rattle.pyr_num.specs.declared.name.Name.{Name}
use Rattle.pyr_num.specs.declared.limits.TheConstants.Limits.{LOCALS}
use Rattle.pyr_body.specs.declared.stmt.Stmt.{Stmt}
use Rattle.pyr_body.specs.Tree.{Statements}
use Rattle.pyr_body.specs.Seen.{statements_of}
use Rattle.pyr_body.specs.Scope.{AreScoped}
use Rattle.pyr_body.specs.Parts.{BodyParts}
use Rattle.pyr_body.specs.Meaning.{State, turns, after_statements, body_meaning}
use Rattle.pyr_body.specs.Running.{state_of}

-- the outputs alone change, and no list comes, goes or changes its length
pub record Kept (locals : List ℕ) (cells : CellLists) (locals' : List ℕ) (cells' : CellLists) : Type 0 where
  pub rest : cells' ≡ record cells { outputs = cells'.outputs }
  pub lengths : map length cells'.outputs ≡ map length cells.outputs
  pub count : length cells'.outputs ≡ length cells.outputs
  pub locals_length : length locals' ≡ length locals

-- the statements that are left give what all of them give
pub record SoFar (frame : ℕ) (left all : List Stmt) (locals : List ℕ) (cells : CellLists) (locals' : List ℕ) (cells' : CellLists) : Type 0 where
  pub state : after_statements frame cells.inputs (statements_of left) (state_of locals' cells') ≡ after_statements frame cells.inputs (statements_of all) (state_of locals cells)
  pub kept : Kept locals cells locals' cells'
  pub scoped : AreScoped (length cells.inputs) (length cells.outputs) (length locals) (statements_of left)

-- so many turns are done
pub record Turned (frame l : ℕ) (turn : List Stmt) (k : ℕ) (locals : List ℕ) (cells : CellLists) (locals' : List ℕ) (cells' : CellLists) : Type 0 where
  pub state : state_of locals' cells' ≡ turns l (after_statements frame cells.inputs (statements_of turn)) k (state_of locals cells)
  pub kept : Kept locals cells locals' cells'

-- a write changes no length
pub lengths-with_word : (ls : List (List ℕ)) (k i v : ℕ) → map length (with_word ls k i v) ≡ map length ls
lengths-with_word [] k i v = refl
lengths-with_word (x ∷ ls) zero i v = ap (λ n. n ∷ map length ls) (length-set x _ v)
lengths-with_word (x ∷ ls) (suc k) i v = ap (λ ns. length x ∷ ns) (lengths-with_word ls k i v)

pub length-with_word : (ls : List (List ℕ)) (k i v : ℕ) → length (with_word ls k i v) ≡ length ls
length-with_word [] k i v = refl
length-with_word (x ∷ ls) zero i v = refl
length-with_word (x ∷ ls) (suc k) i v = ap suc (length-with_word ls k i v)

-- a whole run, from locals that are the front of zeros
pub evaluated : (frame : ℕ) (v w : CellLists) (body : BodyParts) (all : Statements) (names : List Name) (ls ls' : List ℕ)
    → after_statements frame v.inputs all (state_of ls v) ≡ state_of ls' w
    → w ≡ record v { outputs = w.outputs }
    → all ≡ body.statements → names ≡ body.locals
    → length names ≤ LOCALS → ls ≡ take (length names) (replicate LOCALS 0)
    → w ≡ record v { outputs = body_meaning body frame v.inputs v.outputs }
evaluated frame v w body all names ls ls' run rest same_statements same_names few front =
    let zeros : ls ≡ replicate (length body.locals) 0 =
    front ∙ take-replicate (length names) LOCALS 0 few ∙ ap (λ (l : List Name). replicate (length l) 0) same_names in
    let outputs : w.outputs ≡ body_meaning body frame v.inputs v.outputs =
    sym (ap (λ (x : State). x.outputs) run)
    ∙ ap (λ (l : List ℕ). (after_statements frame v.inputs all (state_of l v)).outputs) zeros
    ∙ ap (λ (ss : Statements). (after_statements frame v.inputs ss (state_of (replicate (length body.locals) 0) v)).outputs) same_statements in
    rest ∙ ap (λ (o : List (List ℕ)). let x : CellLists = record v { outputs = o } in x) outputs
