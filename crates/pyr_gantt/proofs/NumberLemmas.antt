-- The numbers below a bound, and what is listed for each of them.
use Rattle.std.proofs.Common.{◌≡◌, ℕ, zero, suc, ◌+◌, ◌-◌, ◌*◌, ◌<◌, ◌≤◌, cond, List, [], ◌∷◌, ◌++◌, refl, arith, ap, sym, ◌∙◌, length, get_or, take, drop, add-one}
use Rattle.std.specs.Prelude.{map, slice_index}
use Rattle.std.specs.List.{flat_map, slice_range}
use Rattle.std.proofs.lemmas.Grind.{flat_map-append}
use Rattle.std.proofs.lemmas.List.{map-append, get_or-drop, length-drop}
use Rattle.std.proofs.Math.Seq.{take-suc, take-append_seam}
use Rattle.pyr_graph.specs.declared.placement.Placement.{Placement}
use Rattle.pyr_graph.specs.declared.plan.Plan.{Plan}
use Rattle.pyr_graph.specs.Numbers.{numbers}
use Rattle.pyr_gantt.specs.declared.bars.TheConstants.{COLUMNS, BUSY, IDLE}
use Rattle.pyr_gantt.specs.Gantt.{is_busy, bar}
use Rattle.pyr_gantt.specs.Bars.{AreDrawn}

append-nil : (xs : List ℕ) → xs ++ [] ≡ xs
append-nil [] = refl
append-nil (x ∷ xs) = ap (λ (rest : List ℕ). x ∷ rest) (append-nil xs)

-- the lines of one number more
pub lines_more : (f : ℕ → List ℕ) (n : ℕ) → flat_map f (numbers (n + 1)) ≡ flat_map f (numbers n) ++ f n
lines_more f n = rw add-one (flat_map-append f (numbers n) (n ∷ []) ∙ ap (λ (rest : List ℕ). flat_map f (numbers n) ++ rest) (append-nil (f n)))

-- a part of a list that holds f of each number
module _ (f : ℕ → ℕ) (xs : List ℕ) (a : ℕ) where
  part-is : (n : ℕ) → a + n ≤ length xs → ((k : ℕ) → k < n → slice_index xs (a + k) ≡ f k) → take n (drop a xs) ≡ map f (numbers n)
  part-is zero inside each = refl
  part-is (suc n) inside each =
      let within : n < length (drop a xs) = omega (arith, length-drop a xs) in
      let last : get_or (drop a xs) n 0 ≡ f n = get_or-drop a xs n 0 ∙ each n (omega arith) in
      take-suc (drop a xs) n 0 within
      ∙ (rw (last, part-is n (omega arith) (λ k less. each k (omega (arith, less)))) (sym (map-append f (numbers n) (n ∷ []))))

  pub range-is : (n b : ℕ) → b ≡ a + n → a + n ≤ length xs → ((k : ℕ) → k < n → slice_index xs (a + k) ≡ f k) → slice_range xs a b ≡ map f (numbers n)
  range-is n b same inside each =
      let size : b - a ≡ n = omega arith in
      rw size (part-is n inside each)

-- the columns of a processor are its bar
pub bar_columns : (placement : Placement) (plan : Plan) (tasks columns : List ℕ) (p b : ℕ) → AreDrawn placement plan tasks columns → p < placement.processors
    → b ≡ p * COLUMNS + COLUMNS → slice_range columns (p * COLUMNS) b ≡ bar placement plan tasks p
unfolding bar
bar_columns placement plan tasks columns p b drawn p_in same =
    range-is (λ k. cond (is_busy placement plan tasks p k) BUSY IDLE) columns (p * COLUMNS) COLUMNS b same (omega (arith, drawn.full)) (λ k less. drawn.each p k p_in less)

-- what a list is whose front was written whole
pub written : {X : Type 0} (n : ℕ) (new old : List X) → length new ≡ n → take n (new ++ drop (length new) old) ≡ new
written n new old full = rw (← full) (take-append_seam new (drop (length new) old))
