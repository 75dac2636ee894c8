use Rattle.std.proofs.Common.{subst}
use Rattle.pyr_graph.specs.WholeGraph.{IsGraph}
use Rattle.pyr_graphtext.proofs.ReadAgain.{stands_for}
use Rattle.pyr_graphtext.proofs.printing.print_program.Goals as goal

pub returns-clause-read_again : goal.returns-clause-read_again
returns-clause-read_again c =
    stands_for c.args.program.now (subst IsGraph c.graph.ensures.graph c.well_formed-2.ensures) c.graph.ensures.program
    c.in_ok-write_data.ensures.tokens c.in_ok-write_tasks.ensures.tokens c.in_ok-write_prints.ensures.tokens c.in_ok-write_tasks.ensures.bodies
