use Rattle.std.proofs.Common.{◌++◌, List, map, sym, ap, ◌∙◌}
use Rattle.std.specs.List.{flat_map, range_with_len}
use Rattle.std.proofs.lemmas.List.{map-append}
use Rattle.pyr_bundle.specs.declared.raw_channel.RawChannel.{RawChannel}
use Rattle.pyr_bundle.specs.declared.raw_instr.RawInstr.{RawInstr}
use Rattle.pyr_bundle.specs.Laws.{pairs_from}
use Rattle.pyr_emit.specs.Emission.{channel_of}
use Rattle.pyr_emit.proofs.Ranges.{pieces_more}
use Rattle.pyr_emit.proofs.channels.channels_of.Goals as goal

pub loop-from-preserved : goal.loop-from-preserved
loop-from-preserved c =
    let code : List (List RawInstr) = c.args.code.now in
    c.in_ok-push_channels.ensures
    ∙ ap (λ (l : List RawChannel). l ++ map (channel_of code) (pairs_from code c.loop-from.from)) c.loop-from.invariant
    ∙ sym (ap (map (channel_of code)) (pieces_more (pairs_from code) c.loop-from.from) ∙ map-append (channel_of code) (flat_map (pairs_from code) (range_with_len 0 c.loop-from.from)) (pairs_from code c.loop-from.from))
