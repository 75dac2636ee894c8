use Rattle.std.proofs.Common.{◌≡◌, take, ap, ◌∙◌, arith}
use Rattle.std.proofs.lemmas.List.{take_all}
use Rattle.pyr_graphtext.proofs.ListedNames.{with_names, with_names_are, written_names_are}
use Rattle.pyr_graphtext.proofs.names.insert_names.Goals as goal

pub returns : goal.returns
returns c = λ stage datums fine.
    let all : take c.loop-name.name-index c.args.names.now ≡ c.args.names.now = take_all c.loop-name.name-index c.args.names.now (omega arith) in
    c.loop-name.invariant ∙ ap (with_names c.args.table.now) all ∙ with_names_are datums c.args.table.now c.args.names.now (written_names_are stage datums c.args.table.now c.args.names.now fine)
