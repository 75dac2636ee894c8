use Rattle.std.proofs.Common.{map, ap}
use Rattle.std.proofs.lemmas.List.{map_more, take_all, drop_more, drop_all}
use Rattle.pyr_bundle.specs.Parts.{raw_channel_of}
use Rattle.pyr_bundletext.specs.Text.{channel_text}
use Rattle.pyr_bundletext.specs.Spelled.{IsSpelledChannel}
use Rattle.pyr_bundletext.proofs.PrintingLemmas.{items_more, items_all, words_more, words_all}
use Rattle.pyr_bundletext.proofs.printing.put_channels.Goals as goal

pub loop-channel-preserved : goal.loop-channel-preserved
loop-channel-preserved c = record {
  text = items_more channel_text _ _ _ _ _ _ (map_more raw_channel_of c.args.channels.now c.loop-channel.channel-index _ c.loop-channel-test.true) c.loop-channel.invariant.text c.in_ok-put_channel.ensures.text;
  words = words_more IsSpelledChannel _ _ _ _ (ap (map raw_channel_of) (drop_more c.args.channels.now c.loop-channel.channel-index _ c.loop-channel-test.true)) c.in_ok-put_channel.ensures.words c.loop-channel.invariant.words;
}

pub returns : goal.returns
returns c = record {
  text = items_all channel_text _ _ _ _ (ap (map raw_channel_of) (take_all c.loop-channel.channel-index c.args.channels.now c.loop-channel-test.false)) c.loop-channel.invariant.text;
  words = words_all IsSpelledChannel _ _ (ap (map raw_channel_of) (drop_all c.loop-channel.channel-index c.args.channels.now c.loop-channel-test.false)) c.loop-channel.invariant.words;
}
