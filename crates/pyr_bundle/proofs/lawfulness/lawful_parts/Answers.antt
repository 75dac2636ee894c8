use Rattle.pyr_bundle.proofs.Typed.{prints_small, channels_small, codes_small}
use Rattle.pyr_bundle.proofs.lawfulness.lawful_parts.Goals as goal

pub typed_lists-requires : goal.typed_lists-requires
typed_lists-requires c =
    let lawful = c.in_ok-tasks.ensures.lawful in
    record {
      prints = prints_small c.args.raw.now c.requires lawful.prints;
      channels = channels_small c.args.raw.now c.requires lawful.channels lawful.capacities;
      code = codes_small c.args.raw.now c.requires lawful.operands;
    }
