use Rattle.std.proofs.Common.{◌∙◌, sym, ap, length, arith}
use Rattle.std.specs.Prelude.{slice_get}
use Rattle.pyr_bundle.specs.declared.raw_channel.RawChannel.{RawChannel}
use Rattle.pyr_bundle.specs.Laws.{is_fine_capacity, capacities}
use Rattle.pyr_bundle.proofs.Scans.{before_all, single_more, single_breach, broken}
use Rattle.pyr_bundle.proofs.ChannelLemmas.{link_known, capacity_is}
use Rattle.pyr_bundle.proofs.channels.check_capacities.Goals as goal

-- any line, for a place past the end
abbrev no_line : RawChannel
no_line = record { from = 0; to = 0; capacity = 0 }

pub bounds-links-i : goal.bounds-links-i
bounds-links-i c =
    link_known c.args.raw.now c.requires.channels c.loop-i.i no_line (let n = ap length c.as_slice-channel-items.ensures in omega arith) c.args.links.now c.requires.links

pub returns-then-not-allows-clause-fault : goal.returns-then-not-allows-clause-fault
unfolding capacities
returns-then-not-allows-clause-fault c =
    let n = ap length c.as_slice-channel-items.ensures in
    let e = capacity_is c.args.raw.now c.requires.channels c.loop-i.i no_line (omega arith) c.args.links.now c.requires.links _ _ c.as_slice-channel-items.ensures in
    broken 11 _ _ _ _ c.law.ensures (single_breach _ (λ i. is_fine_capacity c.args.raw.now.code (slice_get c.args.raw.now.channels i)) c.loop-i.i (omega arith) c.loop-i.invariant (sym e ∙ sym c.allows.ensures ∙ c.if-not-allows.true))

pub loop-i-preserved : goal.loop-i-preserved
unfolding capacities
loop-i-preserved c =
    let n = ap length c.as_slice-channel-items.ensures in
    let e = capacity_is c.args.raw.now c.requires.channels c.loop-i.i no_line (omega arith) c.args.links.now c.requires.links _ _ c.as_slice-channel-items.ensures in
    single_more _ (λ i. is_fine_capacity c.args.raw.now.code (slice_get c.args.raw.now.channels i)) c.loop-i.i c.loop-i.invariant (sym e ∙ sym c.allows.ensures ∙ c.if-not-allows.false)

pub returns-clause-ok : goal.returns-clause-ok
unfolding capacities
returns-clause-ok c =
    before_all _ c.loop-i.i (let n = ap length c.as_slice-channel-items.ensures in omega arith) c.loop-i.invariant
