use Rattle.std.proofs.Common.{◌+◌, ◌∙◌, sym, ap, subst, arith}
use Rattle.pyr_bundle.specs.Parts.{processor_count}
use Rattle.pyr_bundle.specs.declared.capacity.Capacity.{Capacity}
use Rattle.pyr_machine.specs.Counts.{step_count}
use Rattle.pyr_calm.specs.Capacities.{line_at}
use Rattle.pyr_calm.specs.Course.{AreAmong}
use Rattle.pyr_calm.proofs.Bundles.{fine_lines}
use Rattle.pyr_calm.proofs.Courses.{course_among}
use Rattle.pyr_calm.proofs.Lines.{AreFirst, one_more, are_calm, told_small, is_read}
use Rattle.pyr_calm.proofs.capacities.calm.Goals as goal

pub lengths-requires : goal.lengths-requires
lengths-requires c =
    let b = c.args.bundle.now in
    subst (λ n. AreAmong n c.deref.result.now) (sym c.processors.ensures)
    (subst (AreAmong (processor_count b)) (sym c.deref.ensures.value)
    (course_among b c.well_formed-2.ensures c.in_ok-passages.passages.items c.in_ok-passages.ensures))

pub length_told-most-requires-clause-to : goal.length_told-most-requires-clause-to
length_told-most-requires-clause-to c =
    (is_read c.args.bundle.now c.in_ok-passages.passages.items c.well_formed-2.ensures c.loop-channel.channel-index c.channels-channel-items.result.now
    c.in_ok-rows.rows.items c.deref-in-loop-channel.result.now c.deref.result.now c.processors.result c.channels-channel-items.ensures c.deref-in-loop-channel.ensures.value c.deref.ensures.value
    c.processors.ensures c.loop-channel-test.true c.in_ok-rows.ensures).to

pub length_told-most-requires-clause-from : goal.length_told-most-requires-clause-from
length_told-most-requires-clause-from c =
    (is_read c.args.bundle.now c.in_ok-passages.passages.items c.well_formed-2.ensures c.loop-channel.channel-index c.channels-channel-items.result.now
    c.in_ok-rows.rows.items c.deref-in-loop-channel.result.now c.deref.result.now c.processors.result c.channels-channel-items.ensures c.deref-in-loop-channel.ensures.value c.deref.ensures.value
    c.processors.ensures c.loop-channel-test.true c.in_ok-rows.ensures).from

pub overflow_cast-most : goal.overflow_cast-most
overflow_cast-most c =
    let read = is_read c.args.bundle.now c.in_ok-passages.passages.items c.well_formed-2.ensures c.loop-channel.channel-index c.channels-channel-items.result.now
    c.in_ok-rows.rows.items c.deref-in-loop-channel.result.now c.deref.result.now c.processors.result c.channels-channel-items.ensures c.deref-in-loop-channel.ensures.value c.deref.ensures.value
    c.processors.ensures c.loop-channel-test.true c.in_ok-rows.ensures in
    let is = c.length_told-most.ensures ∙ read.most in
    let small = told_small c.args.bundle.now (step_count c.args.bundle.now) c.in_ok-passages.passages.items c.loop-channel.channel-index c.well_formed-2.ensures c.requires.good c.in_ok-passages.ensures in
    omega (arith, is, small)

pub loop-channel-preserved : goal.loop-channel-preserved
loop-channel-preserved c =
    let b = c.args.bundle.now in
    let xs = c.in_ok-passages.passages.items in
    let i = c.loop-channel.channel-index in
    let read = is_read b xs c.well_formed-2.ensures i c.channels-channel-items.result.now
    c.in_ok-rows.rows.items c.deref-in-loop-channel.result.now c.deref.result.now c.processors.result c.channels-channel-items.ensures c.deref-in-loop-channel.ensures.value c.deref.ensures.value
    c.processors.ensures c.loop-channel-test.true c.in_ok-rows.ensures in
    let same = ap (λ cs. line_at cs i) c.channels-channel-items.ensures in
    let line : Capacity = record { from = (line_at c.channels-channel-items.result.now i).from; to = (line_at c.channels-channel-items.result.now i).to; capacity = c.length_told-most.result } in
    subst (AreFirst b xs (i + 1)) (sym c.in_ok-push.ensures.items)
    (one_more b xs i c.loop-channel.lines.items line c.loop-channel.invariant (record {
      from = ap (λ (x : Capacity). x.from) same;
      to = ap (λ (x : Capacity). x.to) same;
      capacity = c.length_told-most.ensures ∙ read.most;
    }))

pub returns-clause-calm : goal.returns-clause-calm
returns-clause-calm c =
    let b = c.args.bundle.now in
    are_calm b (step_count b) c.in_ok-passages.passages.items c.loop-channel.lines.items c.requires.good c.in_ok-passages.ensures
    (subst (λ n. AreFirst b c.in_ok-passages.passages.items n c.loop-channel.lines.items)
    (search arith) c.loop-channel.invariant)

pub returns-clause-fine : goal.returns-clause-fine
returns-clause-fine c =
    let b = c.args.bundle.now in
    fine_lines b (step_count b) c.loop-channel.lines.items c.well_formed-2.ensures c.requires.good
    (are_calm b (step_count b) c.in_ok-passages.passages.items c.loop-channel.lines.items c.requires.good c.in_ok-passages.ensures
    (subst (λ n. AreFirst b c.in_ok-passages.passages.items n c.loop-channel.lines.items)
    (search arith) c.loop-channel.invariant))
