use Rattle.std.proofs.Common.{ℕ, ◌<◌, ◌≤◌, ◌∷◌, ◌++◌, ◌&&◌, not, List, [], length, map, get_or, refl, sym, ap, ◌∙◌, subst}
use Rattle.std.specs.List.{filter}
use Rattle.std.proofs.lemmas.List.{take_all}
use Rattle.pyr_graph.specs.System.{writer_of, datum_count}
use Rattle.pyr_graph.specs.Placements.{processor_of, same_processor}
use Rattle.pyr_bundle.specs.declared.raw_instr.RawInstr.TheVariants.{Recv}
use Rattle.pyr_emit.specs.Emission.{data_read, receive_of}
use Rattle.pyr_emit.specs.Marks.{is_marked}
use Rattle.pyr_emit.proofs.BlockLemmas.{receive_yes, receive_no}
use Rattle.pyr_emit.proofs.blocks.push_receives.Goals as goal
use Rattle.pyr_emit.proofs.blocks.push_receives.Goals.{then-is_awaited+in_ok-push, else-is_awaited}

pub writer-requires : goal.writer-requires
writer-requires c =
    subst (λ (l : List ℕ). get_or l c.loop-datum.datum-index 0 < datum_count c.args.graph.now) (sym c.deref-datum-items.ensures.value)
    (c.in_ok-data_read.ensures.below c.loop-datum.datum-index 0 (subst (λ (l : List ℕ). c.loop-datum.datum-index < length l) c.deref-datum-items.ensures.value c.loop-datum-test.true))

pub is_awaited-requires : goal.is_awaited-requires
is_awaited-requires c =
    subst (λ n. get_or c.deref-datum-items.result.now c.loop-datum.datum-index 0 < n) (sym c.requires.known)
    (subst (λ (l : List ℕ). get_or l c.loop-datum.datum-index 0 < datum_count c.args.graph.now) (sym c.deref-datum-items.ensures.value)
    (c.in_ok-data_read.ensures.below c.loop-datum.datum-index 0 (subst (λ (l : List ℕ). c.loop-datum.datum-index < length l) c.deref-datum-items.ensures.value c.loop-datum-test.true)))

pub loop-datum-preserved : goal.loop-datum-preserved
loop-datum-preserved c =
    let s = c.args.graph.now in
    let placement = c.args.placement.now in
    let t : ℕ = c.args.task.0 in
    let list : List ℕ = c.deref-datum-items.result.now in
    let i : ℕ = c.loop-datum.datum-index in
    let d : ℕ = get_or list i 0 in
    let is_list = c.deref-datum-items.ensures.value ∙ c.in_ok-data_read.ensures.list in
    let is_from = c.processor_of-from.ensures ∙ ap (processor_of placement) c.writer.ensures.number in
    elim c.if-is_awaited.branch [
      | then-is_awaited+in_ok-push w ↦ receive_yes s placement t c.args.known.now list i d c.processor_of-from.result c.processor_of-home.result is_list c.loop-datum-test.true refl is_from c.processor_of-home.ensures
          c.if-is_awaited.code.items c.loop-datum.code.items c.args.code.now.items (sym c.is_awaited.ensures ∙ w.if-is_awaited.true) c.loop-datum.invariant
          (rw w.code-is (w.in_ok-push.ensures.items ∙ ap (λ f. c.loop-datum.code.items ++ Recv f w.from-then-is_awaited.result ∷ []) w.from.ensures ∙ ap (λ e. c.loop-datum.code.items ++ Recv c.processor_of-from.result e ∷ []) w.from-then-is_awaited.ensures))
      | else-is_awaited w ↦ rw w.code-is (receive_no s placement t c.args.known.now list i d c.processor_of-from.result c.processor_of-home.result is_list c.loop-datum-test.true refl is_from c.processor_of-home.ensures
          c.loop-datum.code.items c.args.code.now.items (sym c.is_awaited.ensures ∙ w.if-is_awaited.false) c.loop-datum.invariant)
    ]

pub returns : goal.returns
returns c =
    let s = c.args.graph.now in
    let placement = c.args.placement.now in
    let t : ℕ = c.args.task.0 in
    let is_list = c.deref-datum-items.ensures.value ∙ c.in_ok-data_read.ensures.list in
    let end : length (data_read s t) ≤ c.loop-datum.datum-index = subst (λ (l : List ℕ). length l ≤ c.loop-datum.datum-index) is_list c.loop-datum-test.false in
    c.loop-datum.invariant
    ∙ ap (λ (l : List ℕ). c.args.code.now.items ++ map (receive_of s placement) (filter (λ d. not (same_processor placement (writer_of s d) t) && not (is_marked c.args.known.now d)) l))
    (take_all c.loop-datum.datum-index (data_read s t) end)
