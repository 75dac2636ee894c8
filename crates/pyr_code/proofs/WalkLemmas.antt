-- One step of the walk, and its end.
use Rattle.std.proofs.Common.{◌≡◌, ℕ, suc, ◌+◌, ◌<◌, eqb, List, [], ◌∷◌, length, get_or, drop, refl, ◌∙◌, ap, sym, add-one, zero-add, drop-cons}
use Rattle.std.specs.Prelude.{Option, Some, None, if◌then◌else◌}
use Rattle.std.specs.Option.{option_or}
use Rattle.pyr_code.specs.declared.shape.Shape.{Shape}
use Rattle.pyr_code.specs.declared.op.Op.{Op as OpValue}
use Rattle.pyr_code.specs.declared.code_fault.CodeFault.{CodeFault}
use Rattle.pyr_code.specs.declared.code_fault.CodeFault.TheVariants.{BadCode}
use Rattle.pyr_code.specs.declared.code_fault.BadKind.TheVariants.{Height}
use Rattle.pyr_code.specs.Tree.{Op, Loop, Code}
use Rattle.pyr_code.specs.Seen.{op_of, code_of}
use Rattle.pyr_code.specs.Size.{op_nodes, code_nodes}
use Rattle.pyr_code.specs.Height.{height_after_op, height_after}
use Rattle.pyr_code.specs.Fault.{EndOf, op_visits, code_visits, kind_before, first_among, first_fault}
use Rattle.pyr_code.proofs.FirstFault.{first_among-append, first_among-loop, first_fault-append}

-- the ops from an index on
pub drop-item : (ops : List OpValue) (i : ℕ) (op : OpValue) → i < length ops → op ≡ get_or ops i op → drop i ops ≡ op ∷ drop (i + 1) ops
drop-item ops i op l e = drop-cons ops i op l ∙ ap (λ x. x ∷ drop (suc i) ops) (sym e) ∙ ap (λ k. op ∷ drop k ops) (sym (add-one i))

-- one fault alone
or_nothing : (o : Option CodeFault) → o ≡ option_or o None
or_nothing None = refl
or_nothing (Some fault) = refl

module _ (shape : Shape) where
  -- the first fault of ops is that of the first op, or else that of the others
  pub step_err : (ops rest : List OpValue) (op : OpValue) (place h : ℕ) (fault : CodeFault) → ops ≡ op ∷ rest → Some fault ≡ first_among shape (op_visits (op_of op) place h) → first_among shape (code_visits (code_of ops) place h) ≡ Some fault
  step_err ops rest op place h fault is e =
      ap (λ (x : List OpValue). first_among shape (code_visits (code_of x) place h)) is
      ∙ first_among-append shape (op_visits (op_of op) place h) (code_visits (code_of rest) (place + op_nodes (op_of op)) (height_after_op (op_of op) h))
      ∙ ap (λ o. option_or o (first_among shape (code_visits (code_of rest) (place + op_nodes (op_of op)) (height_after_op (op_of op) h)))) (sym e)

  pub step_ok : (ops rest : List OpValue) (op : OpValue) (place h place' h' : ℕ) → ops ≡ op ∷ rest → None ≡ first_among shape (op_visits (op_of op) place h) → place' ≡ place + op_nodes (op_of op) → h' ≡ height_after_op (op_of op) h → first_among shape (code_visits (code_of ops) place h) ≡ first_among shape (code_visits (code_of rest) place' h')
  step_ok ops rest op place h place' h' is e p q =
      ap (λ (x : List OpValue). first_among shape (code_visits (code_of x) place h)) is
      ∙ first_among-append shape (op_visits (op_of op) place h) (code_visits (code_of rest) (place + op_nodes (op_of op)) (height_after_op (op_of op) h))
      ∙ ap (λ o. option_or o (first_among shape (code_visits (code_of rest) (place + op_nodes (op_of op)) (height_after_op (op_of op) h)))) (sym e)
      ∙ ap (λ x. first_among shape (code_visits (code_of rest) x (height_after_op (op_of op) h))) (sym p)
      ∙ ap (λ x. first_among shape (code_visits (code_of rest) place' x)) (sym q)

  -- the first fault of a loop is that of its code, or else that of the end of its code
  pub loop_err : (op : Op) (l count : ℕ) (turn : Code) (place h : ℕ) (fault : CodeFault) → op ≡ Loop l count turn → kind_before shape op h ≡ None → Some fault ≡ first_among shape (code_visits turn (place + 1) h) → first_among shape (op_visits op place h) ≡ Some fault
  loop_err op l count turn place h fault is k e =
      ap (λ o. first_among shape (op_visits o place h)) is
      ∙ first_among-loop shape l count turn place h (ap (λ o. kind_before shape o h) (sym is) ∙ k)
      ∙ ap (λ o. option_or o (first_among shape (EndOf place (height_after turn h) h ∷ []))) (sym e)

  pub loop_end : (op : Op) (l count : ℕ) (turn : Code) (place h height : ℕ) → op ≡ Loop l count turn → kind_before shape op h ≡ None → None ≡ first_among shape (code_visits turn (place + 1) h) → height ≡ height_after turn h → (if eqb height h then None else Some (BadCode place Height)) ≡ first_among shape (op_visits op place h)
  loop_end op l count turn place h height is k e after =
      or_nothing (if eqb height h then None else Some (BadCode place Height))
      ∙ ap (λ n. first_among shape (EndOf place n h ∷ [])) after
      ∙ sym (ap (λ o. first_among shape (op_visits o place h)) is
      ∙ first_among-loop shape l count turn place h (ap (λ o. kind_before shape o h) (sym is) ∙ k)
      ∙ ap (λ o. option_or o (first_among shape (EndOf place (height_after turn h) h ∷ []))) (sym e))

  -- the first fault of whole code, likewise
  pub whole_err : (code : Code) (fault : CodeFault) → Some fault ≡ first_among shape (code_visits code 0 0) → first_fault shape code ≡ Some fault
  whole_err code fault e =
      first_fault-append shape code
      ∙ ap (λ o. option_or o (first_among shape (EndOf (code_nodes code) (height_after code 0) 0 ∷ []))) (sym e)

  pub whole_end : (code : Code) (place height : ℕ) → None ≡ first_among shape (code_visits code 0 0) → place ≡ 0 + code_nodes code → height ≡ height_after code 0 → (if eqb height 0 then None else Some (BadCode place Height)) ≡ first_fault shape code
  whole_end code place height e count after =
      or_nothing (if eqb height 0 then None else Some (BadCode place Height))
      ∙ ap (λ n. first_among shape (EndOf n height 0 ∷ [])) (count ∙ zero-add (code_nodes code))
      ∙ ap (λ n. first_among shape (EndOf (code_nodes code) n 0 ∷ [])) after
      ∙ sym (first_fault-append shape code
      ∙ ap (λ o. option_or o (first_among shape (EndOf (code_nodes code) (height_after code 0) 0 ∷ []))) (sym e))
