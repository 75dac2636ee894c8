use Rattle.std.proofs.Common.{◌∙◌, ap, refl, false, length}
use Rattle.std.specs.Prelude.{replicate}
use Rattle.pyr_bundle.specs.Parts.{datum_count}
use Rattle.pyr_loader.proofs.UnreceivedLemmas.{marked_more, start_marked, all_marked, known_instr, lent_back}
use Rattle.pyr_loader.proofs.leftover.marks_of.Goals as goal

pub mark-requires : goal.mark-requires
mark-requires c =
    known_instr c.args.bundle.now c.args.p.0 c.code-instr-items.result.now c.loop-instr.instr-index _ _ c.well_formed-2.ensures c.code-instr-items.ensures c.loop-instr-test.true
    (ap length c.deref_mut.ensures.value ∙ c.loop-instr.invariant.count)

pub loop-instr-init : goal.loop-instr-init
loop-instr-init c =
    start_marked (datum_count c.args.bundle.now) c.in_ok-marks.marks.items (c.in_ok-marks.ensures.items_if_clones_equal (λ y h. h) ∙ ap (λ n. replicate n false) c.datum_count.ensures)

pub loop-instr-preserved : goal.loop-instr-preserved
loop-instr-preserved c =
    marked_more (datum_count c.args.bundle.now) c.code-instr-items.result.now c.loop-instr.instr-index _ c.loop-instr.marks.items _ c.loop-instr-test.true
    (known_instr c.args.bundle.now c.args.p.0 c.code-instr-items.result.now c.loop-instr.instr-index _ _ c.well_formed-2.ensures c.code-instr-items.ensures c.loop-instr-test.true refl)
    (lent_back _ _ c.loop-instr.marks.items c.deref_mut.result.now c.mark.new.marks _ c.deref_mut.ensures.value c.deref_mut.ensures.len c.mark.ensures refl)
    c.loop-instr.invariant

pub returns : goal.returns
returns c =
    all_marked c.args.bundle.now c.args.p.0 c.loop-instr.instr-index c.code-instr-items.result.now c.loop-instr.marks.items c.code-instr-items.ensures c.loop-instr-test.false c.loop-instr.invariant
