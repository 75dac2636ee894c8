-- The code of a body does what the body does.
use Rattle.std.proofs.Common.{◌≡◌, ℕ, zero, suc, List, [], ◌∷◌, ◌++◌, length, replicate, refl, ap, ◌∙◌}
use Rattle.pyr_body.specs.Tree.{Expr, Num, Local, Frame, Get, Bin, Sel, Stmt, Set, Put, For, Statements, End, Then}
use Rattle.pyr_body.specs.Parts.{BodyParts}
use Rattle.pyr_body.specs.Meaning.{State, with_local, turns, expr_value, after_stmt, after_statements, body_meaning}
use Rattle.pyr_code.specs.Tree.{Op, Store, Get as GetOp, Put as PutOp, Bin as BinOp, Sel as SelOp}
use Rattle.pyr_code.specs.Seen.{code_from}
use Rattle.pyr_code.specs.Meaning.{State as CodeState, with_local as code_with_local, turns as code_turns, after_op, after_code, outputs_of}
use Rattle.pyr_bodygen.specs.Generated.{expr_ops, stmt_ops, statements_ops, generated}

-- a body's state, with a stack
abbrev pub on_stack : List ℕ → State → CodeState
on_stack stack state = record { stack = stack; locals = state.locals; outputs = state.outputs }

-- turns that agree, where the stack stays, agree in any number
turns_agree : (l : ℕ) (stack : List ℕ) (f : CodeState → CodeState) (g : State → State) → ((state : State) → f (on_stack stack state) ≡ on_stack stack (g state)) → (n : ℕ) (state : State) → code_turns l f n (on_stack stack state) ≡ on_stack stack (turns l g n state)
turns_agree l stack f g same zero state = refl
turns_agree l stack f g same (suc k) state =
    ap (λ (before : CodeState). f (code_with_local before l k)) (turns_agree l stack f g same k state)
    ∙ same (with_local (turns l g k state) l k)

module _ (frame : ℕ) (inputs : List (List ℕ)) where
  -- code in two parts
  pub after_code-append : (xs ys : List Op) (state : CodeState) → after_code frame inputs (code_from (xs ++ ys)) state ≡ after_code frame inputs (code_from ys) (after_code frame inputs (code_from xs) state)
  after_code-append [] ys state = refl
  after_code-append (op ∷ xs) ys state = after_code-append xs ys (after_op frame inputs op state)

  runs_then : (xs ys : List Op) (state : CodeState) {after : CodeState} → after_code frame inputs (code_from xs) state ≡ after → after_code frame inputs (code_from (xs ++ ys)) state ≡ after_code frame inputs (code_from ys) after
  runs_then xs ys state e = after_code-append xs ys state ∙ ap (after_code frame inputs (code_from ys)) e

  -- the ops of an expression push its value
  pub expr_pushes : (e : Expr) (stack : List ℕ) (state : State) → after_code frame inputs (code_from (expr_ops e)) (on_stack stack state) ≡ on_stack (expr_value frame inputs e state ∷ stack) state
  expr_pushes (Num word) stack state = refl
  expr_pushes (Local l) stack state = refl
  expr_pushes Frame stack state = refl
  expr_pushes (Get slot index) stack state =
      runs_then (expr_ops index) (GetOp slot ∷ []) (on_stack stack state) (expr_pushes index stack state)
  expr_pushes (Bin operator a b) stack state =
      let stack1 = expr_value frame inputs a state ∷ stack in
      runs_then (expr_ops a) (expr_ops b ++ BinOp operator ∷ []) (on_stack stack state) (expr_pushes a stack state)
      ∙ runs_then (expr_ops b) (BinOp operator ∷ []) (on_stack stack1 state) (expr_pushes b stack1 state)
  expr_pushes (Sel c a b) stack state =
      let stack1 = expr_value frame inputs c state ∷ stack in
      let stack2 = expr_value frame inputs a state ∷ stack1 in
      runs_then (expr_ops c) (expr_ops a ++ (expr_ops b ++ SelOp ∷ [])) (on_stack stack state) (expr_pushes c stack state)
      ∙ runs_then (expr_ops a) (expr_ops b ++ SelOp ∷ []) (on_stack stack1 state) (expr_pushes a stack1 state)
      ∙ runs_then (expr_ops b) (SelOp ∷ []) (on_stack stack2 state) (expr_pushes b stack2 state)

  mutual
    -- the ops of a statement do what it does, and leave the stack
    pub stmt_runs : (s : Stmt) (stack : List ℕ) (state : State) → after_code frame inputs (code_from (stmt_ops s)) (on_stack stack state) ≡ on_stack stack (after_stmt frame inputs s state)
    stmt_runs (Set l e) stack state =
        runs_then (expr_ops e) (Store l ∷ []) (on_stack stack state) (expr_pushes e stack state)
    stmt_runs (Put output index e) stack state =
        let stack1 = expr_value frame inputs index state ∷ stack in
        runs_then (expr_ops index) (expr_ops e ++ PutOp output ∷ []) (on_stack stack state) (expr_pushes index stack state)
        ∙ runs_then (expr_ops e) (PutOp output ∷ []) (on_stack stack1 state) (expr_pushes e stack1 state)
    stmt_runs (For l count turn) stack state =
        turns_agree l stack (after_code frame inputs (code_from (statements_ops turn))) (after_statements frame inputs turn) (λ state. statements_run turn stack state) count state

    -- and so do the ops of statements
    pub statements_run : (ss : Statements) (stack : List ℕ) (state : State) → after_code frame inputs (generated ss) (on_stack stack state) ≡ on_stack stack (after_statements frame inputs ss state)
    statements_run End stack state = refl
    statements_run (Then s rest) stack state =
        runs_then (stmt_ops s) (statements_ops rest) (on_stack stack state) (stmt_runs s stack state)
        ∙ statements_run rest stack (after_stmt frame inputs s state)

-- the code of a body leaves the outputs that the body leaves
pub same_outputs : (body : BodyParts) (frame : ℕ) (inputs outputs : List (List ℕ)) → outputs_of frame inputs (generated body.statements) (length body.locals) outputs ≡ body_meaning body frame inputs outputs
same_outputs body frame inputs outputs =
    ap (λ (state : CodeState). state.outputs) (statements_run frame inputs body.statements [] (record { locals = replicate (length body.locals) 0; outputs = outputs }))
