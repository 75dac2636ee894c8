use Rattle.std.proofs.Common.{◌∙◌, sym, arith}
use Rattle.std.specs.Prelude.{slice_get}
use Rattle.pyr_bundle.specs.Laws.{pairs_of, is_line_of, channels}
use Rattle.pyr_bundle.proofs.Scans.{before_all, single_more, single_breach, broken}
use Rattle.pyr_bundle.proofs.ChannelLemmas.{line_is, rows_are}
use Rattle.pyr_bundle.proofs.channels.check_channels.Goals as goal

pub returns-then-not-is_line_of-clause-fault : goal.returns-then-not-is_line_of-clause-fault
unfolding channels
returns-then-not-is_line_of-clause-fault c =
    let n = rows_are c.args.raw.now.code c.args.raw.now.channels _ _ _ c.as_slice-lines.ensures c.requires c.max-i-end.ensures in
    let e = line_is c.args.raw.now.code c.args.raw.now.channels _ _ c.loop-i.i _ _ c.as_slice-lines.ensures c.requires c.line_at.ensures c.link_at.ensures in
    broken 10 _ _ _ _ c.law.ensures (single_breach _ (λ i. is_line_of (slice_get c.args.raw.now.channels i) (slice_get (pairs_of c.args.raw.now.code) i)) c.loop-i.i (omega arith) c.loop-i.invariant
    (sym e ∙ sym c.is_line_of.ensures ∙ c.if-not-is_line_of.true))

pub loop-i-preserved : goal.loop-i-preserved
unfolding channels
loop-i-preserved c =
    let e = line_is c.args.raw.now.code c.args.raw.now.channels _ _ c.loop-i.i _ _ c.as_slice-lines.ensures c.requires c.line_at.ensures c.link_at.ensures in
    single_more _ (λ i. is_line_of (slice_get c.args.raw.now.channels i) (slice_get (pairs_of c.args.raw.now.code) i)) c.loop-i.i c.loop-i.invariant (sym e ∙ sym c.is_line_of.ensures ∙ c.if-not-is_line_of.false)

pub returns-clause-ok : goal.returns-clause-ok
unfolding channels
returns-clause-ok c =
    let n = rows_are c.args.raw.now.code c.args.raw.now.channels _ _ _ c.as_slice-lines.ensures c.requires c.max-i-end.ensures in
    before_all _ c.loop-i.i (omega arith) c.loop-i.invariant
