-- There is room for the zeros, since there is room for those of all data together.
use Rattle.pyr_graphtext.proofs.RoomLemmas.{output_room}
use Rattle.pyr_graphtext.proofs.running.add_outputs.Goals as goal

pub add_output-requires-clause-words : goal.add_output-requires-clause-words
add_output-requires-clause-words c =
    output_room c.args.graph.now c.args.datums.now c.loop-datum.datum-index (record { 0 = 0 }) c.args.cells.now c.loop-datum.cells
    c.length.result c.loop-datum-test.true c.loop-datum.invariant c.requires.words c.length.ensures
