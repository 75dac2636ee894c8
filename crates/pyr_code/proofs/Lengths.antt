-- Code keeps the lengths of its outputs.
use Rattle.std.proofs.Common.{◌≡◌, ℕ, zero, suc, List, [], ◌∷◌, length, map, refl, ◌∙◌, ap}
use Rattle.std.specs.Prelude.{◌%◌}
use Rattle.std.proofs.lemmas.List.{length-set}
use Rattle.pyr_num.specs.Cells.{with_word}
use Rattle.pyr_code.specs.Tree.{Op, Push, Load, Store, Frame, Get, Put, Bin, Sel, Loop, Code, End, Then}
use Rattle.pyr_code.specs.Meaning.{State, start_of, turns, after_op, after_code, outputs_of}

-- a write keeps the lengths, and the number of lists
pub lengths-with_word : (lists : List (List ℕ)) (slot index value : ℕ) → map length (with_word lists slot index value) ≡ map length lists
lengths-with_word [] slot index value = refl
lengths-with_word (ws ∷ rest) zero index value = ap (λ n. n ∷ map length rest) (length-set ws (index % length ws) value)
lengths-with_word (ws ∷ rest) (suc slot) index value = ap (λ ns. length ws ∷ ns) (lengths-with_word rest slot index value)

pub length-with_word : (lists : List (List ℕ)) (slot index value : ℕ) → length (with_word lists slot index value) ≡ length lists
length-with_word [] slot index value = refl
length-with_word (ws ∷ rest) zero index value = refl
length-with_word (ws ∷ rest) (suc slot) index value = ap suc (length-with_word rest slot index value)

lengths-turns : (l : ℕ) (turn : State → State) → ((state : State) → map length (turn state).outputs ≡ map length state.outputs) → (n : ℕ) (state : State) → map length (turns l turn n state).outputs ≡ map length state.outputs
lengths-turns l turn keeps zero state = refl
lengths-turns l turn keeps (suc n) state = keeps _ ∙ lengths-turns l turn keeps n state

module _ (frame : ℕ) (inputs : List (List ℕ)) where
  mutual
    pub lengths-after_op : (op : Op) (state : State) → map length (after_op frame inputs op state).outputs ≡ map length state.outputs
    lengths-after_op (Push word) state = refl
    lengths-after_op (Load l) state = refl
    lengths-after_op (Store l) state = refl
    lengths-after_op Frame state = refl
    lengths-after_op (Get slot) state = refl
    lengths-after_op (Put output) state = lengths-with_word state.outputs output _ _
    lengths-after_op (Bin operator) state = refl
    lengths-after_op Sel state = refl
    lengths-after_op (Loop l count turn) state = lengths-turns l (after_code frame inputs turn) (lengths-after_code turn) count state

    pub lengths-after_code : (code : Code) (state : State) → map length (after_code frame inputs code state).outputs ≡ map length state.outputs
    lengths-after_code End state = refl
    lengths-after_code (Then op rest) state = lengths-after_code rest (after_op frame inputs op state) ∙ lengths-after_op op state

  -- the meaning keeps the lengths of the outputs
  pub lengths-outputs_of : (code : Code) (locals : ℕ) (outputs : List (List ℕ)) → map length (outputs_of frame inputs code locals outputs) ≡ map length outputs
  lengths-outputs_of code locals outputs = lengths-after_code code (start_of locals outputs)
