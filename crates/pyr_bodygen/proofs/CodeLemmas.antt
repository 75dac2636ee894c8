-- What holds of values that are the code of a body.
use Rattle.std.proofs.Common.{◌≡◌, ℕ, ◌+◌, ◌<◌, ◌≤◌, ◌++◌, ◌∷◌, List, map, drop, get_or, length, append_assoc, sym, subst, ap, ◌∙◌}
use Rattle.std.proofs.lemmas.List.{drop_more}
use Rattle.pyr_num.specs.Cells.{CellLists}
use Rattle.pyr_body.specs.declared.stmt.Stmt.{Stmt as StmtValue}
use Rattle.pyr_body.specs.Parts.{BodyParts}
use Rattle.pyr_body.specs.Body.{IsBody}
use Rattle.pyr_body.specs.Seen.{stmt_of, statements_of}
use Rattle.pyr_body.specs.Size.{statements_nodes, statements_work}
use Rattle.pyr_body.specs.Meaning.{body_meaning}
use Rattle.pyr_code.specs.declared.op.Op.{Op as OpValue}
use Rattle.pyr_code.specs.declared.shape.Shape.{Shape}
use Rattle.pyr_code.specs.declared.stack.TheConstants.{MAX_HEIGHT}
use Rattle.pyr_code.specs.Seen.{op_of, code_from, code_of}
use Rattle.pyr_code.specs.Size.{code_nodes, code_work, IsWithinLimits}
use Rattle.pyr_code.specs.Height.{greatest_height}
use Rattle.pyr_code.specs.Meaning.{outputs_of}
use Rattle.pyr_code.specs.Running.{executed}
use Rattle.pyr_code.specs.WellFormed.{IsWellFormed}
use Rattle.pyr_code.specs.Verified.{ShapedCode, IsVerified}
use Rattle.pyr_code.specs.Tree.{Op}
use Rattle.pyr_bodygen.specs.Generated.{stmt_ops, statements_ops, generated}
use Rattle.pyr_bodygen.specs.Agreement.{shape_of, IsCodeOf, SameMeaning}
use Rattle.pyr_bodygen.proofs.MeaningLemmas.{same_outputs}
use Rattle.pyr_bodygen.proofs.SizeLemmas.{same_nodes, same_work, within_limits}
use Rattle.pyr_bodygen.proofs.WellFormedLemmas.{well_formed, low_height}

-- the ops of a body's statements are its code
pub code_made : (body : BodyParts) (shape : Shape) (ops : List OpValue) (lent : List StmtValue) → shape ≡ shape_of body → map op_of ops ≡ statements_ops (statements_of lent) → statements_of lent ≡ body.statements → IsCodeOf body (record { ops = ops; shape = shape })
code_made body shape ops lent same_shape made same = record { shape = same_shape; ops = ap code_from made ∙ ap generated same }

module _ (body : BodyParts) (code : ShapedCode) where
  -- it means what the body means
  pub same_meaning : IsCodeOf body code → SameMeaning body code
  same_meaning is frame inputs outputs =
      ap (λ x. outputs_of frame inputs x code.shape.locals outputs) is.ops
      ∙ ap (λ (x : Shape). outputs_of frame inputs (generated body.statements) x.locals outputs) is.shape
      ∙ same_outputs body frame inputs outputs

  -- a run of it leaves what the body leaves
  pub same_cells : (frame : ℕ) (cells : CellLists) → IsCodeOf body code → executed frame code cells ≡ record cells { outputs = body_meaning body frame cells.inputs cells.outputs }
  same_cells frame cells is =
      ap (λ (o : List (List ℕ)). let x : CellLists = record cells { outputs = o } in x) (same_meaning is frame cells.inputs cells.outputs)

  -- it is well-formed and within the limits
  pub is_verified : IsBody body → IsCodeOf body code → IsVerified code
  is_verified body_is is = record {
    well_formed = subst (λ x. IsWellFormed x (code_of code.ops)) (sym is.shape) (subst (IsWellFormed (shape_of body)) (sym is.ops) (well_formed body body_is));
    limits = subst (λ x. IsWithinLimits x (code_of code.ops)) (sym is.shape) (subst (IsWithinLimits (shape_of body)) (sym is.ops) (within_limits body body_is));
  }

  -- it has as many ops as the body has nodes, and as much work
  pub code_nodes-same : IsCodeOf body code → code_nodes (code_of code.ops) ≡ statements_nodes body.statements
  code_nodes-same is = ap code_nodes is.ops ∙ same_nodes body.statements

  pub code_work-same : IsCodeOf body code → code_work (code_of code.ops) ≡ statements_work body.statements
  code_work-same is = ap code_work is.ops ∙ same_work body.statements

  -- its stack stays low
  pub greatest_height-low : IsBody body → IsCodeOf body code → greatest_height (code_of code.ops) 0 ≤ MAX_HEIGHT
  greatest_height-low body_is is = subst (λ x. greatest_height x 0 ≤ MAX_HEIGHT) (sym is.ops) (low_height body body_is)

-- the ops of one statement more stand before those of the statements that are left
pub statement_more : (ss : List StmtValue) (i : ℕ) (statement : StmtValue) (old new all : List Op) → i < length ss → statement ≡ get_or ss i statement
    → old ++ statements_ops (statements_of (drop i ss)) ≡ all → new ≡ old ++ stmt_ops (stmt_of statement)
    → new ++ statements_ops (statements_of (drop (i + 1) ss)) ≡ all
statement_more ss i statement old new all below is left pushed =
    let rest = statements_ops (statements_of (drop (i + 1) ss)) in
    ap (λ (ops : List Op). ops ++ rest) pushed
    ∙ append_assoc old (stmt_ops (stmt_of statement)) rest
    ∙ ap (λ (s : StmtValue). old ++ (stmt_ops (stmt_of s) ++ rest)) is
    ∙ ap (λ (l : List StmtValue). old ++ statements_ops (statements_of l)) (sym (drop_more ss i statement below))
    ∙ left
