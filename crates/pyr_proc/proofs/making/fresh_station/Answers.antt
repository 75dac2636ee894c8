use Rattle.std.proofs.Common.{◌∙◌, ap, []}
use Rattle.pyr_stash.specs.Held.{held}
use Rattle.pyr_proc.proofs.MakingLemmas.{fresh_fits}
use Rattle.pyr_proc.proofs.making.fresh_station.Goals as goal

pub invariant_of-result : goal.invariant_of-result
invariant_of-result c =
    rw c.of.ensures
    (fresh_fits c.args.bundle.now c.args.number.0 c.room_of-room.result.slots c.room_of-room.result.words c.in_ok-entries.entries.items c.in_ok-stash.stash c.in_ok-buffers.buffers.items c.in_ok-cells.cells c.args.ends.heads c.args.ends.tails
    c.in_ok-entries.ensures.fit (c.in_ok-stash.ensures ∙ ap (held []) c.stash_room.ensures) c.in_ok-buffers.ensures c.room_of-room.ensures c.in_ok-cells.ensures c.requires.heads c.requires.tails)
