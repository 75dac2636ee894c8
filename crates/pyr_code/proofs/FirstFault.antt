-- Code has no first fault exactly where it is well-formed.
use Rattle.std.proofs.Common.{◌≡◌, ℕ, ◌+◌, ◌≤◌, Bool, true, false, ltb, eqb, List, [], ◌∷◌, ◌++◌, refl, ◌∙◌, ap, sym, arith, eq-eqb}
use Rattle.std.specs.Prelude.{Option, Some, None, Result, Ok, Err, IsOk, ◌↔◌, not, if◌then◌else◌}
use Rattle.std.specs.Option.{option_or, option_map}
use Rattle.std.specs.Result.{result_err}
use Rattle.std.proofs.lemmas.Bool.{ltb-true, ltb-false, lt-ltb, eqb-true}
use Rattle.pyr_code.specs.declared.shape.Shape.{Shape}
use Rattle.pyr_code.specs.declared.stack.TheConstants.{MAX_HEIGHT}
use Rattle.pyr_code.specs.declared.code_fault.CodeFault.{CodeFault}
use Rattle.pyr_code.specs.declared.code_fault.CodeFault.TheVariants.{BadCode}
use Rattle.pyr_code.specs.declared.code_fault.BadKind.{BadKind}
use Rattle.pyr_code.specs.declared.code_fault.BadKind.TheVariants.{Local, Slot, Underflow, Tall, Height}
use Rattle.pyr_code.specs.Tree.{Op, Push, Load, Store, Frame, Get, Put, Bin, Sel, Loop, Code, End, Then}
use Rattle.pyr_code.specs.Size.{op_nodes, code_nodes}
use Rattle.pyr_code.specs.Height.{popped, height_after_op, height_after}
use Rattle.pyr_code.specs.WellFormed.{IsFineOp, IsFine, IsWellFormed}
use Rattle.pyr_code.proofs.HeightLemmas.{height_after_op-low}
use Rattle.pyr_code.specs.Fault.{Visit, EndOf, op_visits, code_visits, has_local, has_slot, kind_before, fault_at, first_among, first_fault}

-- the first of three, taken in pairs
option_or-assoc : (a b c : Option CodeFault) → option_or (option_or a b) c ≡ option_or a (option_or b c)
option_or-assoc None b c = refl
option_or-assoc (Some x) b c = refl

pub first_among-append : (shape : Shape) (xs ys : List Visit) → first_among shape (xs ++ ys) ≡ option_or (first_among shape xs) (first_among shape ys)
first_among-append shape [] ys = refl
first_among-append shape (x ∷ xs) ys =
    ap (option_or (fault_at shape x)) (first_among-append shape xs ys)
    ∙ sym (option_or-assoc (fault_at shape x) (first_among shape xs) (first_among shape ys))

-- none of two is there exactly where both are missing
none_or : (a b : Option CodeFault) → option_or a b ≡ None → (a ≡ None) × (b ≡ None)
none_or None b e = (refl, e)
none_or (Some x) b e = absurd (cc)

or_none : (a b : Option CodeFault) → a ≡ None → b ≡ None → option_or a b ≡ None
or_none None b e f = f
or_none (Some x) b e f = e

-- one visit has no fault exactly where it has no kind of one
none_at : (k : Option BadKind) (place : ℕ) → option_or (option_map (BadCode place) k) None ≡ None → k ≡ None
none_at None place e = refl
none_at (Some kind) place e = absurd (cc)

at_none : (k : Option BadKind) (place : ℕ) → k ≡ None → option_or (option_map (BadCode place) k) None ≡ None
at_none None place e = refl
at_none (Some kind) place e = absurd (cc)

-- the four tests of an op
abbrev told : Bool → Bool → Bool → Bool → Option BadKind
told a b c d =
    if not a then Some Local
    else (if not b then Some Slot
    else (if c then Some Underflow
    else (if d then Some Tall else None)))

all_pass : (a b c d : Bool) → told a b c d ≡ None → (a ≡ true) × (b ≡ true) × (c ≡ false) × (d ≡ false)
all_pass true true false false e = (refl, refl, refl, refl)
all_pass true true false true e = absurd (cc)
all_pass true true true d e = absurd (cc)
all_pass true false c d e = absurd (cc)
all_pass false b c d e = absurd (cc)

pass_all : (a b c d : Bool) → a ≡ true → b ≡ true → c ≡ false → d ≡ false → told a b c d ≡ None
pass_all true true false false p q r s = refl
pass_all true true false true p q r s = absurd (cc)
pass_all true true true d p q r s = absurd (cc)
pass_all true false c d p q r s = absurd (cc)
pass_all false b c d p q r s = absurd (cc)

end_passes : (place : ℕ) (b : Bool) → (if b then None else Some (BadCode place Height)) ≡ None → b ≡ true
end_passes place true e = refl
end_passes place false e = absurd (cc)

passes_end : (place : ℕ) (b : Bool) → b ≡ true → (if b then None else Some (BadCode place Height)) ≡ None
passes_end place true e = refl
passes_end place false e = absurd (cc)

not_ltb : (a b : ℕ) → b ≤ a → ltb a b ≡ false
not_ltb a b l = grind arith

-- the op has no fault of its own
record Stands (shape : Shape) (op : Op) (h : ℕ) : Type 0 where
  pub known_local : has_local shape.locals op ≡ true
  pub known_slot : has_slot shape.reads shape.writes op ≡ true
  pub enough : popped op ≤ h
  pub low : height_after_op op h ≤ MAX_HEIGHT

kind_before-none : (shape : Shape) (op : Op) (h : ℕ) → kind_before shape op h ≡ None → Stands shape op h
kind_before-none shape op h e =
    let tests = all_pass (has_local shape.locals op) (has_slot shape.reads shape.writes op) (ltb h (popped op)) (ltb MAX_HEIGHT (height_after_op op h)) e in
    record {
      known_local = tests.0;
      known_slot = tests.1;
      enough = ltb-false h (popped op) tests.2;
      low = ltb-false MAX_HEIGHT (height_after_op op h) tests.3;
    }

none-kind_before : (shape : Shape) (op : Op) (h : ℕ) → Stands shape op h → kind_before shape op h ≡ None
none-kind_before shape op h stands =
    pass_all (has_local shape.locals op) (has_slot shape.reads shape.writes op) (ltb h (popped op)) (ltb MAX_HEIGHT (height_after_op op h))
    stands.known_local stands.known_slot (not_ltb h (popped op) stands.enough) (not_ltb MAX_HEIGHT (height_after_op op h) stands.low)

module _ (shape : Shape) where
  abbrev IsGood : Op → ℕ → Type 0
  IsGood = IsFineOp shape.reads shape.writes shape.locals

  -- the visits of a loop
  pub first_among-loop : (l count : ℕ) (turn : Code) (place h : ℕ) → kind_before shape (Loop l count turn) h ≡ None → first_among shape (op_visits (Loop l count turn) place h) ≡ option_or (first_among shape (code_visits turn (place + 1) h)) (first_among shape (EndOf place (height_after turn h) h ∷ []))
  first_among-loop l count turn place h e =
      ap (λ k. option_or (option_map (BadCode place) k) (first_among shape (code_visits turn (place + 1) h ++ EndOf place (height_after turn h) h ∷ []))) e
      ∙ first_among-append shape (code_visits turn (place + 1) h) (EndOf place (height_after turn h) h ∷ [])

  -- the end of code has no fault exactly at the height that is wanted
  end_none : (place h wanted : ℕ) → first_among shape (EndOf place h wanted ∷ []) ≡ None → h ≡ wanted
  end_none place h wanted e = eqb-true h wanted (end_passes place (eqb h wanted) (none_or _ _ e).0)

  none_end : (place h wanted : ℕ) → h ≡ wanted → first_among shape (EndOf place h wanted ∷ []) ≡ None
  none_end place h wanted e = or_none _ _ (passes_end place (eqb h wanted) (eq-eqb h wanted e)) refl

  mutual
    -- without a fault, the code is fine
    op_fine : (op : Op) (place h : ℕ) → first_among shape (op_visits op place h) ≡ None → IsGood op h
    op_fine (Push word) place h e = let s = kind_before-none shape (Push word) h (none_at _ _ e) in omega (arith, s.low)
    op_fine (Load l) place h e = let s = kind_before-none shape (Load l) h (none_at _ _ e) in (ltb-true l shape.locals s.known_local, omega (arith, s.low))
    op_fine (Store l) place h e = let s = kind_before-none shape (Store l) h (none_at _ _ e) in (ltb-true l shape.locals s.known_local, omega (arith, s.enough))
    op_fine Frame place h e = let s = kind_before-none shape Frame h (none_at _ _ e) in omega (arith, s.low)
    op_fine (Get slot) place h e = let s = kind_before-none shape (Get slot) h (none_at _ _ e) in (ltb-true slot (shape.reads + shape.writes) s.known_slot, omega (arith, s.enough))
    op_fine (Put output) place h e = let s = kind_before-none shape (Put output) h (none_at _ _ e) in (ltb-true output shape.writes s.known_slot, omega (arith, s.enough))
    op_fine (Bin operator) place h e = let s = kind_before-none shape (Bin operator) h (none_at _ _ e) in omega (arith, s.enough)
    op_fine Sel place h e = let s = kind_before-none shape Sel h (none_at _ _ e) in omega (arith, s.enough)
    op_fine (Loop l count turn) place h e =
        let k = none_at (kind_before shape (Loop l count turn) h) place (or_none _ _ (none_or _ _ e).0 refl) in
        let s = kind_before-none shape (Loop l count turn) h k in
        let parts = none_or _ _ (sym (first_among-loop l count turn place h k) ∙ e) in
        (ltb-true l shape.locals s.known_local, code_fine turn (place + 1) h parts.0, end_none place (height_after turn h) h parts.1)

    code_fine : (code : Code) (place h : ℕ) → first_among shape (code_visits code place h) ≡ None → IsFine shape.reads shape.writes shape.locals code h
    code_fine End place h e = tt
    code_fine (Then op rest) place h e =
        let parts = none_or _ _ (sym (first_among-append shape (op_visits op place h) (code_visits rest (place + op_nodes op) (height_after_op op h))) ∙ e) in
        (op_fine op place h parts.0, code_fine rest (place + op_nodes op) (height_after_op op h) parts.1)

  mutual
    -- fine code has no fault
    fine_op : (op : Op) (place h : ℕ) → h ≤ MAX_HEIGHT → IsGood op h → first_among shape (op_visits op place h) ≡ None
    fine_op (Push word) place h low fine = at_none _ place (none-kind_before shape (Push word) h (record { known_local = refl; known_slot = refl; enough = omega arith; low = omega arith }))
    fine_op (Load l) place h low fine = at_none _ place (none-kind_before shape (Load l) h (record { known_local = lt-ltb l shape.locals fine.0; known_slot = refl; enough = omega arith; low = omega (arith, fine.1) }))
    fine_op (Store l) place h low fine = at_none _ place (none-kind_before shape (Store l) h (record { known_local = lt-ltb l shape.locals fine.0; known_slot = refl; enough = omega (arith, fine.1); low = omega arith }))
    fine_op Frame place h low fine = at_none _ place (none-kind_before shape Frame h (record { known_local = refl; known_slot = refl; enough = omega arith; low = omega arith }))
    fine_op (Get slot) place h low fine = at_none _ place (none-kind_before shape (Get slot) h (record { known_local = refl; known_slot = lt-ltb slot (shape.reads + shape.writes) fine.0; enough = omega (arith, fine.1); low = omega (arith, fine.1) }))
    fine_op (Put output) place h low fine = at_none _ place (none-kind_before shape (Put output) h (record { known_local = refl; known_slot = lt-ltb output shape.writes fine.0; enough = omega (arith, fine.1); low = omega arith }))
    fine_op (Bin operator) place h low fine = at_none _ place (none-kind_before shape (Bin operator) h (record { known_local = refl; known_slot = refl; enough = omega arith; low = omega arith }))
    fine_op Sel place h low fine = at_none _ place (none-kind_before shape Sel h (record { known_local = refl; known_slot = refl; enough = omega arith; low = omega arith }))
    fine_op (Loop l count turn) place h low fine =
        let k = none-kind_before shape (Loop l count turn) h (record { known_local = lt-ltb l shape.locals fine.0; known_slot = refl; enough = omega arith; low = omega arith }) in
        first_among-loop l count turn place h k ∙ or_none _ _ (fine_code turn (place + 1) h low fine.1) (none_end place (height_after turn h) h fine.2)

    fine_code : (code : Code) (place h : ℕ) → h ≤ MAX_HEIGHT → IsFine shape.reads shape.writes shape.locals code h → first_among shape (code_visits code place h) ≡ None
    fine_code End place h low fine = refl
    fine_code (Then op rest) place h low fine =
        first_among-append shape (op_visits op place h) (code_visits rest (place + op_nodes op) (height_after_op op h))
        ∙ or_none _ _ (fine_op op place h low fine.0) (fine_code rest (place + op_nodes op) (height_after_op op h) (height_after_op-low shape.reads shape.writes shape.locals op h low fine.0) fine.1)

  -- whole code
  pub first_fault-append : (code : Code) → first_fault shape code ≡ option_or (first_among shape (code_visits code 0 0)) (first_among shape (EndOf (code_nodes code) (height_after code 0) 0 ∷ []))
  first_fault-append code = first_among-append shape (code_visits code 0 0) (EndOf (code_nodes code) (height_after code 0) 0 ∷ [])

  pub first_fault-none : (code : Code) → first_fault shape code ≡ None → IsWellFormed shape code
  first_fault-none code e =
      let parts = none_or _ _ (sym (first_fault-append code) ∙ e) in
      record { fine = code_fine code 0 0 parts.0; ends_empty = end_none (code_nodes code) (height_after code 0) 0 parts.1 }

  pub none-first_fault : (code : Code) → IsWellFormed shape code → first_fault shape code ≡ None
  none-first_fault code well =
      first_fault-append code ∙ or_none _ _ (fine_code code 0 0 (omega arith) well.fine) (none_end (code_nodes code) (height_after code 0) 0 well.ends_empty)

-- an answer that tells the first fault accepts exactly well-formed code
pub accepted : {T : Type 0} (shape : Shape) (code : Code) (r : Result T CodeFault) → result_err r ≡ first_fault shape code → IsOk r ↔ IsWellFormed shape code
accepted {T} shape code (Ok v) e = (λ _. first_fault-none shape code (sym e), λ _. refl)
accepted {T} shape code (Err fault) e =
    (λ (ok : IsOk {T = T} {E = CodeFault} (Err fault)). absurd (cc), λ (well : IsWellFormed shape code). let none = none-first_fault shape code well in absurd (cc))
