use Rattle.std.proofs.Common.{List, ap, ◌∙◌}
use Rattle.std.proofs.lemmas.List.{take_all}
use Rattle.pyr_num.specs.declared.ids.DatumId.{DatumId}
use Rattle.pyr_bundle.specs.Values.{zeros}
use Rattle.pyr_machine.specs.State.{numbers}
use Rattle.pyr_team.proofs.PrintLemmas.{known_at, zeros_are}
use Rattle.pyr_team.proofs.printing.blank.Goals as goal

pub datum-requires : goal.datum-requires
datum-requires c = known_at c.args.bundle.now c.prints-prints.result.now c.loop-d.d-index c.is_bundle.ensures c.prints-prints.ensures c.loop-d-test.true

pub returns : goal.returns
returns c =
    zeros_are c.args.bundle.now c.loop-d.lists.items
    (c.loop-d.invariant.0 ∙ ap (λ (ds : List DatumId). zeros c.args.bundle.now (numbers ds)) (take_all c.loop-d.d-index c.prints-prints.result.now c.loop-d-test.false ∙ c.prints-prints.ensures))
