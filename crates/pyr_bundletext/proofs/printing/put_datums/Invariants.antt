use Rattle.std.proofs.Common.{◌≡◌, ◌++◌, take, drop, true}
use Rattle.pyr_num.specs.Name.{is_name}
use Rattle.std.specs.List.{flat_map, AllByRecursion}
use Rattle.pyr_bundletext.specs.Text.{datum_text}
use Rattle.pyr_bundletext.proofs.printing.put_datums.Given as goal

abbrev pub invariant-loop-d : goal.invariant-loop-d
invariant-loop-d l = record {
  text : l.text.items ≡ l.initial.text.items ++ flat_map datum_text (take l.d l.bundle.datums);
  words : AllByRecursion (λ d. is_name d.name ≡ true) (drop l.d l.bundle.datums) → AllByRecursion (λ d. is_name d.name ≡ true) l.bundle.datums;
}
