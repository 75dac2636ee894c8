use Rattle.std.proofs.Common.{◌≡◌, ◌++◌, take, map, drop}
use Rattle.pyr_bundletext.specs.Spelled.{IsWord}
use Rattle.std.specs.List.{flat_map, AllByRecursion}
use Rattle.pyr_bundletext.specs.Text.{spaced}
use Rattle.pyr_bundletext.proofs.lines.put_datum_ids.Given as goal

abbrev pub invariant-loop-datum : goal.invariant-loop-datum
invariant-loop-datum l = record {
  text : l.text.items ≡ l.fn.text.items ++ l.word ++ flat_map spaced (map (λ d. d.0) (take l.datum-index l.datums));
  words : AllByRecursion IsWord (map (λ d. d.0) (drop l.datum-index l.datums)) → AllByRecursion IsWord (map (λ d. d.0) l.datums);
}
