-- The room that every task finds enough is enough for this one.
use Rattle.std.proofs.Common.{◌≡◌, ◌∙◌, ap, List, arith}
use Rattle.pyr_num.specs.declared.ids.DatumId.{DatumId}
use Rattle.pyr_num.specs.Cells.{CellLists, word_count}
use Rattle.pyr_graph.specs.System.{System, datum_numbers, task_at, reads_of, writes_of}
use Rattle.pyr_graphtext.specs.Running.{inputs_from, lengths_of}
use Rattle.pyr_graphtext.proofs.RoomLemmas.{word_count-ready}
use Rattle.pyr_graphtext.proofs.running.run_task.Goals as goal

pub add_inputs-requires-clause-words : goal.add_inputs-requires-clause-words
add_inputs-requires-clause-words c =
    let reads : c.reads.result.now ≡ (task_at c.args.program.now.graph c.args.task.0).reads = c.reads.ensures ∙ ap (λ (g : System). (task_at g c.args.task.0).reads) c.graph-graph.ensures.graph in
    let words : word_count (inputs_from c.args.table.now (datum_numbers c.reads.result.now)) ≡ word_count (inputs_from c.args.table.now (reads_of c.args.program.now.graph c.args.task.0)) =
    ap (λ (ds : List DatumId). word_count (inputs_from c.args.table.now (datum_numbers ds))) reads in
    let room : c.clear.new.self.word_room ≡ c.args.cells.now.word_room = ap (λ (l : CellLists). l.word_room) c.clear.ensures in
    omega (arith, words, room, word_count-ready c.args.program.now.graph c.args.table.now (task_at c.args.program.now.graph c.args.task.0).reads c.requires.ready, c.requires.room.words_fit c.args.task.0 c.requires.task)

pub add_outputs-requires-clause-words : goal.add_outputs-requires-clause-words
add_outputs-requires-clause-words c =
    let reads : c.reads.result.now ≡ (task_at c.args.program.now.graph c.args.task.0).reads = c.reads.ensures ∙ ap (λ (g : System). (task_at g c.args.task.0).reads) c.graph-graph.ensures.graph in
    let words : word_count c.add_inputs.new.cells.inputs ≡ word_count (inputs_from c.args.table.now (reads_of c.args.program.now.graph c.args.task.0)) =
    ap (λ (l : CellLists). word_count l.inputs) c.add_inputs.ensures
    ∙ ap (λ (ds : List DatumId). word_count (inputs_from c.args.table.now (datum_numbers ds))) reads in
    let lengths : lengths_of c.graph-graph.result.now (datum_numbers c.writes.result.now) ≡ lengths_of c.args.program.now.graph (writes_of c.args.program.now.graph c.args.task.0) =
    ap (λ (ds : List DatumId). lengths_of c.graph-graph.result.now (datum_numbers ds)) c.writes.ensures
    ∙ ap (λ (g : System). lengths_of g (writes_of g c.args.task.0)) c.graph-graph.ensures.graph in
    let room : c.add_inputs.new.cells.word_room ≡ c.args.cells.now.word_room =
    ap (λ (l : CellLists). l.word_room) c.add_inputs.ensures ∙ ap (λ (l : CellLists). l.word_room) c.clear.ensures in
    omega (arith, words, lengths, room, word_count-ready c.args.program.now.graph c.args.table.now (task_at c.args.program.now.graph c.args.task.0).reads c.requires.ready, c.requires.room.words_fit c.args.task.0 c.requires.task)
