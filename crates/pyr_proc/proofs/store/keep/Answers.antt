use Rattle.pyr_proc.proofs.EntryLemmas.{stored-store}
use Rattle.pyr_proc.proofs.store.keep.Goals as goal

pub returns-clause-store : goal.returns-clause-store
returns-clause-store c = stored-store (record { tag = c.args.d; words = c.args.words }) c.args.entries.now c.requires
