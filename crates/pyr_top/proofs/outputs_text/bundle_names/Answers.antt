use Rattle.std.proofs.Common.{◌<◌, List, length, slice_index_or, rules, sym, subst}
use Rattle.pyr_num.specs.declared.ids.DatumId.{DatumId}
use Rattle.pyr_bundle.specs.Parts.{datum_count, datum_id}
use Rattle.pyr_machine.proofs.Output.{known_print}
use Rattle.pyr_top.proofs.outputs_text.bundle_names.Goals as goal

pub datum-requires : goal.datum-requires
datum-requires c =
    let below : c.loop-i.i < length c.args.bundle.now.prints = search rules in
    subst (λ (prints : List DatumId). (slice_index_or prints c.loop-i.i (datum_id 0)).0 < datum_count c.args.bundle.now) (sym c.prints-prints.ensures)
    (known_print c.args.bundle.now c.loop-i.i c.is_bundle.ensures below)
