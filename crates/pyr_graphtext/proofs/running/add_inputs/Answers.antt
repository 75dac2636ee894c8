-- There is room for the list, since there is room for the lists of all data together.
use Rattle.std.proofs.Common.{◌≡◌, ◌∙◌, [], get_or}
use Rattle.std.proofs.lemmas.List.{get_or_read}
use Rattle.pyr_graphtext.specs.Running.{words_of}
use Rattle.pyr_graphtext.proofs.RoomLemmas.{input_room}
use Rattle.pyr_graphtext.proofs.running.add_inputs.Goals as goal

pub add_input-requires-clause-words : goal.add_input-requires-clause-words
add_input-requires-clause-words c =
    let read : c.as_slice-in-loop-datum.result.now ≡ words_of c.args.table.now (get_or c.args.datums.now c.loop-datum.datum-index (record { 0 = 0 })).0 =
    c.as_slice-in-loop-datum.ensures
    ∙ get_or_read c.args.table.now (get_or c.args.datums.now c.loop-datum.datum-index (record { 0 = 0 })).0 c.index-as_slice-datum.result
    (c.requires.known c.loop-datum.datum-index (record { 0 = 0 }) c.loop-datum-test.true) (rw c.as_slice.ensures at c.index-as_slice-datum.is) [] in
    input_room c.args.table.now c.args.datums.now c.loop-datum.datum-index (record { 0 = 0 }) c.args.cells.now c.loop-datum.cells
    c.as_slice-in-loop-datum.result.now c.loop-datum-test.true c.loop-datum.invariant c.requires.words read
