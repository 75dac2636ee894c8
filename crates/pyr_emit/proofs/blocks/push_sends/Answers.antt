use Rattle.std.proofs.Common.{ℕ, ◌<◌, ◌≤◌, ◌++◌, List, length, get_or, sym, ap, ◌∙◌, subst, arith}
use Rattle.std.specs.List.{flat_map}
use Rattle.std.proofs.lemmas.List.{take_all}
use Rattle.pyr_graph.specs.System.{datum_count}
use Rattle.pyr_emit.specs.Emission.{data_written}
use Rattle.pyr_emit.specs.Marks.{marked_sends_of}
use Rattle.pyr_emit.proofs.BlockLemmas.{sends_more}
use Rattle.pyr_emit.proofs.blocks.push_sends.Goals as goal

pub push_sends_of-requires : goal.push_sends_of-requires
push_sends_of-requires c =
    let below : get_or c.deref-datum-items.result.now c.loop-datum.datum-index 0 < datum_count c.args.graph.now =
    subst (λ (l : List ℕ). get_or l c.loop-datum.datum-index 0 < datum_count c.args.graph.now) (sym c.deref-datum-items.ensures.value)
    (c.in_ok-data_written.ensures.below c.loop-datum.datum-index 0 (subst (λ (l : List ℕ). c.loop-datum.datum-index < length l) c.deref-datum-items.ensures.value c.loop-datum-test.true)) in
    record { rows = λ q l. let full = c.requires.readers.rows q l in omega (arith, below, full) }

pub loop-datum-preserved : goal.loop-datum-preserved
loop-datum-preserved c =
    sends_more c.args.graph.now c.args.task.0 c.args.home c.args.readers.now c.deref-datum-items.result.now c.loop-datum.datum-index
    c.push_sends_of.new.code.items c.loop-datum.code.items c.args.code.now.items (c.deref-datum-items.ensures.value ∙ c.in_ok-data_written.ensures.list)
    c.loop-datum-test.true c.loop-datum.invariant c.in_ok-push_sends_of.ensures

pub returns : goal.returns
returns c =
    let list = data_written c.args.graph.now c.args.task.0 in
    let is_list = c.deref-datum-items.ensures.value ∙ c.in_ok-data_written.ensures.list in
    let end : length list ≤ c.loop-datum.datum-index = subst (λ (l : List ℕ). length l ≤ c.loop-datum.datum-index) is_list c.loop-datum-test.false in
    c.loop-datum.invariant ∙ ap (λ (l : List ℕ). c.args.code.now.items ++ flat_map (marked_sends_of c.args.readers.now c.args.home) l) (take_all c.loop-datum.datum-index list end)
