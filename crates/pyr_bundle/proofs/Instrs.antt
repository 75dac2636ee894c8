-- Going through the instructions of all processors.
use Rattle.std.proofs.Common.{◌≡◌, ℕ, ◌+◌, ◌<◌, ◌≤◌, Bool, true, false, List, [], length, get_or, sym, ap, ◌∙◌, arith}
use Rattle.std.specs.Prelude.{Option, Some, slice_get}
use Rattle.std.proofs.lemmas.List.{get_or_read}
use Rattle.std.proofs.lemmas.Option.{slice_get-get_or, slice_get_within}
use Rattle.pyr_bundle.specs.declared.raw_instr.RawInstr.{RawInstr}
use Rattle.pyr_bundle.specs.Law.{IsFirstBreach, IsKeptBefore}
use Rattle.pyr_bundle.specs.Raw.{code_in}
use Rattle.pyr_bundle.specs.Laws.{by_instr}
use Rattle.pyr_bundle.proofs.Scans.{before_more, before_row}

-- the instruction that stands at a place
pub record IsAt (code : List (List RawInstr)) (p i : ℕ) (instr : RawInstr) : Type 0 where
  pub row : p < length code
  pub is : slice_get (code_in code p) i ≡ Some instr

-- the code of a processor that a loop came to
pub row_is : (code items : List (List RawInstr)) (p : ℕ) (row : List RawInstr) → items ≡ code → p < length items → row ≡ get_or items p row → code_in code p ≡ row
row_is code items p row e l r =
    sym (get_or_read items p row l r [] ∙ ap (λ (x : List (List RawInstr)). get_or x p []) e)

-- and the instruction
pub at_place : (code items : List (List RawInstr)) (p : ℕ) (row instrs : List RawInstr) (i : ℕ) (d : RawInstr) →
    items ≡ code → p < length items → row ≡ get_or items p row → instrs ≡ row → i < length instrs → IsAt code p i (get_or instrs i d)
at_place code items p row instrs i d e l r f k = record {
  row = let n = ap length e in omega arith;
  is = ap (λ (x : List RawInstr). slice_get x i) (row_is code items p row e l r ∙ sym f) ∙ slice_get-get_or instrs i d k;
}

-- the end of its code
pub row_ends : (code items : List (List RawInstr)) (p : ℕ) (row instrs : List RawInstr) (i : ℕ) →
    items ≡ code → p < length items → row ≡ get_or items p row → instrs ≡ row → length instrs ≤ i → length (code_in code p) ≤ i
row_ends code items p row instrs i e l r f k =
    let n = ap length (row_is code items p row e l r ∙ sym f) in omega arith

pub instr_more : (code : List (List RawInstr)) (passes : ℕ → ℕ → Option RawInstr → Bool) (p i : ℕ) (instr : RawInstr) →
    IsAt code p i instr → passes p i (Some instr) ≡ true → IsKeptBefore (by_instr code passes) p i → IsKeptBefore (by_instr code passes) p (i + 1)
instr_more code passes p i instr at e h =
    before_more (by_instr code passes) p i h (ap (passes p i) at.is ∙ e)

pub row_more : (code : List (List RawInstr)) (passes : ℕ → ℕ → Option RawInstr → Bool) (p i : ℕ) →
    length (code_in code p) ≤ i → IsKeptBefore (by_instr code passes) p i → IsKeptBefore (by_instr code passes) (p + 1) 0
row_more code passes p i l h = before_row (by_instr code passes) p i l h

pub instr_breach : (code : List (List RawInstr)) (passes : ℕ → ℕ → Option RawInstr → Bool) (p i : ℕ) (instr : RawInstr) →
    IsAt code p i instr → passes p i (Some instr) ≡ false → IsKeptBefore (by_instr code passes) p i → IsFirstBreach (by_instr code passes) p i
instr_breach code passes p i instr at e h = record {
  row = at.row;
  column = slice_get_within (code_in code p) i instr at.is;
  broken = ap (passes p i) at.is ∙ e;
  earlier = h;
}
