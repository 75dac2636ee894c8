use Rattle.std.proofs.Common.{◌≡◌, ◌++◌, take}
use Rattle.std.specs.List.{flat_map}
use Rattle.pyr_bundletext.specs.Text.{spaced}
use Rattle.pyr_bundletext.proofs.lines.put_line.Given as goal

abbrev pub invariant-loop-number : goal.invariant-loop-number
invariant-loop-number l =
    l.text.items ≡ l.fn.text.items ++ l.word ++ flat_map spaced (take l.number-index l.numbers)
