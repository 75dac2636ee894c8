use Rattle.pyr_verify.proofs.SummaryLemmas.{of_made}
use Rattle.pyr_verify.proofs.verifying.summary_of_made.Goals as goal

pub summary_of-requires : goal.summary_of-requires
summary_of-requires c =
    of_made c.args.tasks c.args.processors c.args.program.now c.in_ok-found.found c.requires.made c.in_ok-found.ensures
