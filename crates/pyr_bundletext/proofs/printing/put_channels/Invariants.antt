use Rattle.std.proofs.Common.{◌≡◌, ◌++◌, take, map, drop}
use Rattle.pyr_bundletext.specs.Spelled.{IsSpelledChannel}
use Rattle.std.specs.List.{flat_map, AllByRecursion}
use Rattle.pyr_bundle.specs.Parts.{raw_channel_of}
use Rattle.pyr_bundletext.specs.Text.{channel_text}
use Rattle.pyr_bundletext.proofs.printing.put_channels.Given as goal

abbrev pub invariant-loop-channel : goal.invariant-loop-channel
invariant-loop-channel l = record {
  text : l.text.items ≡ l.initial.text.items ++ flat_map channel_text (map raw_channel_of (take l.channel-index l.channels));
  words : AllByRecursion IsSpelledChannel (map raw_channel_of (drop l.channel-index l.channels)) → AllByRecursion IsSpelledChannel (map raw_channel_of l.channels);
}
