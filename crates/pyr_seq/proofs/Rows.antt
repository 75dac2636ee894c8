-- Worked rows: what a small list of tasks leaves, as the definitions compute it.
use Rattle.std.proofs.Common.{◌≡◌, [], ◌∷◌, refl}
use Rattle.std.specs.Prelude.{None, sum, slice_index_or}
use Rattle.pyr_seq.specs.Sequential.{Tasks, values, value_of, outputs_of}

-- Task 0 makes 4 for datum 0 and task 2 makes 3 for datum 2; task 1 reads both and writes the sum and a 9.
adder : Tasks
adder = record {
  count = 3;
  reads = λ t. slice_index_or ([] ∷ (2 ∷ 0 ∷ []) ∷ [] ∷ []) t [];
  writes = λ t. slice_index_or ((0 ∷ []) ∷ (1 ∷ 3 ∷ []) ∷ (2 ∷ []) ∷ []) t [];
  outputs = λ t inputs. slice_index_or (((4 ∷ []) ∷ []) ∷ ((sum (slice_index_or inputs 0 []) ∷ sum (slice_index_or inputs 1 []) ∷ []) ∷ (9 ∷ []) ∷ []) ∷ ((3 ∷ []) ∷ []) ∷ []) t [];
}

in_one_order : outputs_of adder (0 ∷ 2 ∷ 1 ∷ []) (3 ∷ 1 ∷ []) ≡ (9 ∷ []) ∷ (3 ∷ 4 ∷ []) ∷ []
unfolding adder
in_one_order = refl

in_another : outputs_of adder (2 ∷ 0 ∷ 1 ∷ []) (3 ∷ 1 ∷ []) ≡ (9 ∷ []) ∷ (3 ∷ 4 ∷ []) ∷ []
unfolding adder
in_another = refl

-- before its writer has run a datum reads as no words
too_early : value_of adder (1 ∷ 0 ∷ 2 ∷ []) 1 ≡ 0 ∷ 0 ∷ []
unfolding adder
too_early = refl

-- what no task writes has no value
unwritten : values adder (0 ∷ 2 ∷ 1 ∷ []) 4 ≡ None
unfolding adder
unwritten = refl
