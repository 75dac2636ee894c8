use Rattle.std.proofs.Common.{map, ◌∙◌}
use Rattle.pyr_num.specs.declared.ids.TaskId.{TaskId}
use Rattle.pyr_size.specs.Followed.{number_of}
use Rattle.pyr_size.proofs.Sent.{channels_known, sizes_noted, sizes_fine}
use Rattle.pyr_size.proofs.sizing.sizes.Goals as goal

pub push_sizes-requires : goal.push_sizes-requires
push_sizes-requires c = record {
  known = channels_known c.args.bundle.now c.channels-2.result.now c.follow.new.lengths.size c.well_formed-2.ensures c.channels-2.ensures c.follow.ensures.size;
}

pub returns-clause-sizes : goal.returns-clause-sizes
returns-clause-sizes c =
    sizes_noted c.args.bundle.now (map (λ (t : TaskId). t.0) c.args.order.now) c.deref.result.now (number_of c.follow.new.lengths) c.in_ok-capacities.capacities.items c.push_sizes.new.capacities.items c.channels-2.result.now
    (c.deref.ensures.value ∙ c.in_ok-schedule.ensures) c.requires.complete c.follow.ensures.occupancy c.in_ok-capacities.ensures.items c.channels-2.ensures c.in_ok-push_sizes.ensures

pub returns-clause-fine : goal.returns-clause-fine
returns-clause-fine c =
    sizes_fine c.args.bundle.now (map (λ (t : TaskId). t.0) c.args.order.now) c.push_sizes.new.capacities.items c.well_formed-2.ensures (returns-clause-sizes c)
