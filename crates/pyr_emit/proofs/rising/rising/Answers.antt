use Rattle.std.proofs.Common.{rules, ◌≡◌, ℕ, List, subst}
use Rattle.std.specs.List.Sorted.{IsPermutation}
use Rattle.std.proofs.lemmas.List.Sorted.{IsNonDecreasingBy-from_sort}
use Rattle.pyr_graph.specs.System.{datum_numbers}
use Rattle.pyr_emit.proofs.RisingLemmas.{rising_is}
use Rattle.pyr_emit.proofs.rising.rising.Goals as goal

pub returns : goal.returns
returns c = λ count below.
    let list : c.in_ok-list.list.items ≡ datum_numbers c.args.datums.now = search rules in
    let moved : IsPermutation (datum_numbers c.args.datums.now) c.sort_unstable.new.self.items =
    subst (λ (xs : List ℕ). IsPermutation xs c.sort_unstable.new.self.items) list c.sort_unstable.ensures.permutation in
    rising_is (datum_numbers c.args.datums.now) c.sort_unstable.new.self.items c.requires moved
    (IsNonDecreasingBy-from_sort (λ x. x) c.sort_unstable.new.self.items c.sort_unstable.ensures.sorted) count below
