-- What is left to store, stored onto the table so far, gives what all of it gives.
use Rattle.std.proofs.Common.{◌≡◌, ◌+◌, ◌∙◌, sym, ap, length, get_or, set, drop}
use Rattle.std.proofs.lemmas.List.{length-set}
use Rattle.pyr_num.specs.Cells.{list_at}
use Rattle.pyr_graph.specs.System.{datum_numbers}
use Rattle.pyr_graphtext.specs.Running.{stored}
use Rattle.pyr_graphtext.proofs.RunningLemmas.{stored_more}
use Rattle.pyr_graphtext.proofs.running.store.Goals as goal

pub loop-output-preserved : goal.loop-output-preserved
loop-output-preserved c =
    let words : c.in_ok-words.words ≡ list_at c.args.cells.now.outputs c.loop-output.output = c.in_ok-words.ensures ∙ c.output.ensures in
    let now : c.set.new.self ≡ set c.loop-output.table (get_or c.args.datums.now c.loop-output.output (record { 0 = 0 })).0 (list_at c.args.cells.now.outputs c.loop-output.output) =
    c.set.ensures ∙ ap (set c.loop-output.table (get_or c.args.datums.now c.loop-output.output (record { 0 = 0 })).0) words in
    record {
      full = ap length c.set.ensures ∙ length-set _ _ _ ∙ c.loop-output.invariant.full;
      left =
          ap (stored (datum_numbers (drop (c.loop-output.output + 1) c.args.datums.now)) (drop (c.loop-output.output + 1) c.args.cells.now.outputs)) now
          ∙ sym (stored_more c.args.datums.now c.args.cells.now.outputs c.loop-output.table c.loop-output.output (record { 0 = 0 }) c.loop-output-test.true c.requires.outputs)
          ∙ c.loop-output.invariant.left;
    }
