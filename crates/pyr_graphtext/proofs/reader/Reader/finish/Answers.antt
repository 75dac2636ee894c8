use Rattle.std.proofs.Common.{subst, sym}
use Rattle.pyr_graphtext.specs.Finishing.{HasSaid}
use Rattle.pyr_graphtext.proofs.ReadingLemmas.{holds_data, can_be_told, is_program}
use Rattle.pyr_graphtext.proofs.reader.Reader.finish.Goals as goal

pub make_program-program-requires-clause-holds : goal.make_program-program-requires-clause-holds
make_program-program-requires-clause-holds c = holds_data _ (subst HasSaid (sym c.self.view_is) c.requires)

pub make_program-program-requires-clause-told : goal.make_program-program-requires-clause-told
make_program-program-requires-clause-told c = can_be_told _ (subst HasSaid (sym c.self.view_is) c.requires)

pub make_program-program-requires-clause-program : goal.make_program-program-requires-clause-program
make_program-program-requires-clause-program c = is_program _ (subst HasSaid (sym c.self.view_is) c.requires)
