use Rattle.pyr_proc.proofs.TrafficLemmas.{settle, feeds_are}
use Rattle.pyr_proc.proofs.laws.feeds_are_traffic.Goals as goal

pub returns-clause-rounds : goal.returns-clause-rounds
returns-clause-rounds c = settle

pub returns-clause-feeds : goal.returns-clause-feeds
returns-clause-feeds c = feeds_are
