use Rattle.std.proofs.Common.{◌≡◌, ◌++◌, take, map, drop}
use Rattle.pyr_bundletext.specs.Spelled.{IsSpelledTask}
use Rattle.std.specs.List.{flat_map, AllByRecursion}
use Rattle.pyr_bundle.specs.Parts.{raw_task_of}
use Rattle.pyr_bundletext.specs.Text.{task_text}
use Rattle.pyr_bundletext.proofs.printing.put_tasks.Given as goal

abbrev pub invariant-loop-t : goal.invariant-loop-t
invariant-loop-t l = record {
  text : l.text.items ≡ l.initial.text.items ++ flat_map task_text (map raw_task_of (take l.t l.bundle.tasks));
  words : AllByRecursion IsSpelledTask (map raw_task_of (drop l.t l.bundle.tasks)) → AllByRecursion IsSpelledTask (map raw_task_of l.bundle.tasks);
}
