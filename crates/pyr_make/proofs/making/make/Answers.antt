use Rattle.std.proofs.Common.{◌∙◌}
use Rattle.pyr_make.proofs.Whole.{parts-program, parts_program}
use Rattle.pyr_make.proofs.making.make.Goals as goal

pub new-requires : goal.new-requires
new-requires c =
    parts_program c.args.tasks c.in_ok-graph.graph c.in_ok-datums.datums.items c.in_ok-datums.names.items c.in_ok-bodies.bodies.items
    c.in_ok-graph.ensures c.in_ok-datums.ensures.datums c.in_ok-datums.ensures.tasks c.in_ok-bodies.ensures c.requires.some c.requires.few

pub returns : goal.returns
returns c =
    c.new.ensures
    ∙ parts-program c.args.tasks c.in_ok-graph.graph c.in_ok-datums.datums.items c.in_ok-datums.names.items c.in_ok-bodies.bodies.items
    c.in_ok-graph.ensures c.in_ok-datums.ensures.datums c.in_ok-datums.ensures.tasks c.in_ok-bodies.ensures
