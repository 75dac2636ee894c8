use Rattle.std.proofs.Common.{◌≡◌, ℕ, ◌+◌, List, ◌++◌, Option, Some, None, length}
use Rattle.std.specs.Option.{option_map}
use Rattle.std.specs.Borrow.{Bor}
use Rattle.pyr_bundletext.specs.Reading.{numbers_of, words_of}
use Rattle.pyr_bundletext.proofs.line_reading.numbers.Given as goal

-- what is left to go through
abbrev left : Option (Bor (List ℕ)) → ℕ
left None = 0
left (Some text) = 1 + length text.now

abbrev pub invariant-loop-others : goal.invariant-loop-others
invariant-loop-others l =
    numbers_of (words_of l.fn.others) ≡ option_map (λ rest. l.numbers ++ rest) (numbers_of (words_of l.others))

abbrev pub decreases-loop-others : goal.decreases-loop-others
decreases-loop-others l = left l.others
