use Rattle.pyr_body.proofs.NamedLemmas.{printed_again}
use Rattle.pyr_body.proofs.printing.print_body.Goals as goal

pub returns-clause-read_again : goal.returns-clause-read_again
returns-clause-read_again c =
    printed_again _ _ _ _ _ c.statements.ensures.body c.requires.reads c.requires.writes c.locals.ensures.value
    c.statements.ensures.value c.in_ok-print_statements.ensures.tokens
