use Rattle.std.proofs.Common.{◌≡◌, ◌++◌, take, map, drop}
use Rattle.pyr_bundletext.specs.Spelled.{IsWord}
use Rattle.std.specs.List.{flat_map, AllByRecursion}
use Rattle.pyr_bundletext.specs.Text.{print_text}
use Rattle.pyr_bundletext.proofs.printing.put_prints.Given as goal

abbrev pub invariant-loop-datum : goal.invariant-loop-datum
invariant-loop-datum l = record {
  text : l.text.items ≡ l.initial.text.items ++ flat_map print_text (map (λ d. d.0) (take l.datum-index l.prints));
  words : AllByRecursion IsWord (map (λ d. d.0) (drop l.datum-index l.prints)) → AllByRecursion IsWord (map (λ d. d.0) l.prints);
}
