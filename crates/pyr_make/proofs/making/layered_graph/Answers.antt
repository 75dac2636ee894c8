use Rattle.pyr_make.proofs.Whole.{parts_held, parts_fault}
use Rattle.pyr_make.proofs.making.layered_graph.Goals as goal

pub build-requires : goal.build-requires
build-requires c =
    parts_held c.args.tasks c.in_ok-parts.parts.items c.in_ok-datums.datums.items c.in_ok-prints.prints.items
    c.in_ok-parts.ensures c.in_ok-datums.ensures c.in_ok-prints.ensures c.requires.some

pub want_of_memory-requires : goal.want_of_memory-requires
want_of_memory-requires c =
    parts_fault c.args.tasks c.in_ok-parts.parts.items c.in_ok-datums.datums.items c.in_ok-prints.prints.items
    c.in_ok-parts.ensures c.in_ok-datums.ensures c.in_ok-prints.ensures c.requires.some c.requires.few
    c.in-Err.fault c.in-Err.ensures.fault
