-- What the loops of a run keep.
use Rattle.std.proofs.Common.{◌≡◌, ◌+◌, ◌*◌, ℕ, ◌<◌, ◌≤◌, List, [], ◌∷◌, length, get_or, replicate, take, drop, ap, sym, ◌∙◌, subst, arith}
use Rattle.std.proofs.lemmas.List.{take-replicate, length-replicate, drop_all}
use Rattle.pyr_num.specs.Cells.{CellLists}
use Rattle.pyr_code.specs.declared.op.Op.{Op as OpValue}
use Rattle.pyr_code.specs.declared.shape.Shape.{Shape}
use Rattle.pyr_code.specs.Seen.{op_of, code_of}
use Rattle.pyr_code.proofs.SeenLemmas.{left_more}
use Rattle.pyr_code.specs.Size.{op_work, code_work}
use Rattle.pyr_code.specs.Height.{height_after_op, height_after}
use Rattle.pyr_code.specs.WellFormed.{IsFine, IsWellFormed}
use Rattle.pyr_code.specs.Meaning.{State, turns, after_op, after_code, outputs_of}
use Rattle.pyr_code.specs.Running.{state_of}

-- the outputs alone change, and none comes or goes
pub record Kept (locals : List ℕ) (cells : CellLists) (locals' : List ℕ) (cells' : CellLists) : Type 0 where
  pub rest : cells' ≡ record cells { outputs = cells'.outputs }
  pub count : length cells'.outputs ≡ length cells.outputs
  pub locals_length : length locals' ≡ length locals

-- the ops that are left give what all of them give
pub record SoFar (frame : ℕ) (left all : List OpValue) (stack locals : List ℕ) (cells : CellLists) (stack' locals' : List ℕ) (cells' : CellLists) (steps steps' : ℕ) : Type 0 where
  pub work : steps' + code_work (code_of left) ≡ steps + code_work (code_of all)
  pub state : after_code frame cells.inputs (code_of left) (state_of stack' locals' cells') ≡ after_code frame cells.inputs (code_of all) (state_of stack locals cells)
  pub height : height_after (code_of left) (length stack') ≡ height_after (code_of all) (length stack)
  pub kept : Kept locals cells locals' cells'
  pub fine : IsFine (length cells.inputs) (length cells.outputs) (length locals) (code_of left) (length stack')

-- one op more
pub so_far_more : (frame : ℕ) (ops : List OpValue) (k : ℕ) (item : OpValue) (st ls : List ℕ) (v : CellLists) (st' ls' : List ℕ) (v' : CellLists) (st'' ls'' : List ℕ) (v'' : CellLists) (n n' n'' : ℕ) → k < length ops → item ≡ get_or ops k item → SoFar frame (drop k ops) ops st ls v st' ls' v' n n' →
    after_op frame v'.inputs (op_of item) (state_of st' ls' v') ≡ state_of st'' ls'' v'' → length st'' ≡ height_after_op (op_of item) (length st') → v'' ≡ record v' { outputs = v''.outputs } → length v''.outputs ≡ length v'.outputs → n'' ≡ n' + op_work (op_of item) → length ls'' ≡ length ls' →
    SoFar frame (drop (k + 1) ops) ops st ls v st'' ls'' v'' n n''
so_far_more frame ops k item st ls v st' ls' v' st'' ls'' v'' n n' n'' l is before step high same count worked size =
    let rest : List OpValue = drop (k + 1) ops in
    let m : SoFar frame (item ∷ rest) ops st ls v st' ls' v' n n' = subst (λ (xs : List OpValue). SoFar frame xs ops st ls v st' ls' v' n n') (left_more ops k item l is) before in
    let here : after_op frame v.inputs (op_of item) (state_of st' ls' v') ≡ state_of st'' ls'' v'' = subst (λ (xs : List (List ℕ)). after_op frame xs (op_of item) (state_of st' ls' v') ≡ state_of st'' ls'' v'') (ap (λ (x : CellLists). x.inputs) m.kept.rest) step in
    record {
      work = let w = m.work in omega arith;
      state = ap (after_code frame v.inputs (code_of rest)) (sym here) ∙ m.state;
      height = ap (height_after (code_of rest)) high ∙ m.height;
      kept = record {
        rest = same ∙ ap (λ (x : CellLists). let y : CellLists = record x { outputs = v''.outputs } in y) m.kept.rest;
        count = count ∙ m.kept.count;
        locals_length = size ∙ m.kept.locals_length;
      };
      fine = subst (IsFine (length v.inputs) (length v.outputs) (length ls) (code_of rest)) (sym high) m.fine.1;
    }

-- no op left
pub so_far_all : (frame : ℕ) (ops : List OpValue) (k : ℕ) (st ls : List ℕ) (v : CellLists) (st' ls' : List ℕ) (v' : CellLists) (n n' : ℕ) → length ops ≤ k → SoFar frame (drop k ops) ops st ls v st' ls' v' n n' → SoFar frame [] ops st ls v st' ls' v' n n'
so_far_all frame ops k st ls v st' ls' v' n n' l before =
    subst (λ (xs : List OpValue). SoFar frame xs ops st ls v st' ls' v' n n') (drop_all k ops l) before

-- k turns are done
pub record Turned (frame l : ℕ) (turn : List OpValue) (k : ℕ) (stack locals : List ℕ) (cells : CellLists) (stack' locals' : List ℕ) (cells' : CellLists) (steps steps' : ℕ) : Type 0 where
  pub work : steps' ≡ steps + k * (1 + code_work (code_of turn))
  pub state : state_of stack' locals' cells' ≡ turns l (after_code frame cells.inputs (code_of turn)) k (state_of stack locals cells)
  pub height : length stack' ≡ length stack
  pub kept : Kept locals cells locals' cells'

-- the locals of a run, as many zeros as the shape says
pub zeros : (n m size : ℕ) (locals : List ℕ) → n ≡ m → n ≤ size → locals ≡ take n (replicate size 0) → locals ≡ replicate m 0
zeros n m size locals e le is = is ∙ take-replicate n size 0 le ∙ ap (λ j. replicate j 0) e

-- well-formed code is fine at the start of a run
pub fine_start : (shape : Shape) (ops all : List OpValue) (reads writes : ℕ) (locals stack : List ℕ) → IsWellFormed shape (code_of all) → ops ≡ all → reads ≡ shape.reads → writes ≡ shape.writes → locals ≡ replicate shape.locals 0 → stack ≡ [] → IsFine reads writes (length locals) (code_of ops) (length stack)
fine_start shape ops all reads writes locals stack well o r w l s =
    let count : length locals ≡ shape.locals = ap length l ∙ length-replicate shape.locals 0 in
    subst (λ x. IsFine x writes (length locals) (code_of ops) (length stack)) (sym r)
    (subst (λ x. IsFine shape.reads x (length locals) (code_of ops) (length stack)) (sym w)
    (subst (λ x. IsFine shape.reads shape.writes x (code_of ops) (length stack)) (sym count)
    (subst (λ (x : List OpValue). IsFine shape.reads shape.writes shape.locals (code_of x) (length stack)) (sym o)
    (subst (λ (x : List ℕ). IsFine shape.reads shape.writes shape.locals (code_of all) (length x)) (sym s) well.fine))))

-- a whole run leaves the outputs of the meaning
pub executed : (frame m : ℕ) (v w : CellLists) (ops all : List OpValue) (st ls st' ls' : List ℕ) → after_code frame v.inputs (code_of ops) (state_of st ls v) ≡ state_of st' ls' w → w ≡ record v { outputs = w.outputs } → ops ≡ all → st ≡ [] → ls ≡ replicate m 0 → w ≡ record v { outputs = outputs_of frame v.inputs (code_of all) m v.outputs }
executed frame m v w ops all st ls st' ls' e r s empty z =
    let o : w.outputs ≡ outputs_of frame v.inputs (code_of all) m v.outputs =
    sym (ap (λ (x : State). x.outputs) e)
    ∙ ap (λ l. (after_code frame v.inputs (code_of ops) (state_of st l v)).outputs) z
    ∙ ap (λ t. (after_code frame v.inputs (code_of ops) (state_of t (replicate m 0) v)).outputs) empty
    ∙ ap (λ l. outputs_of frame v.inputs (code_of l) m v.outputs) s in
    r ∙ ap (λ o. let x : CellLists = record v { outputs = o } in x) o
