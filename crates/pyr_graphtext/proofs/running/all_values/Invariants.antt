use Rattle.pyr_graphtext.specs.Running.{HasRoom}
use Rattle.pyr_graphtext.proofs.RunningLemmas.{HaveRun}
use Rattle.pyr_graphtext.proofs.running.all_values.Given as goal

abbrev pub invariant-loop-task : goal.invariant-loop-task
invariant-loop-task l = record {
  run : HaveRun l.program l.frame l.task-items l.task-index l.table;
  room : HasRoom l.program.graph l.cells.slot_room l.cells.word_room;
}
