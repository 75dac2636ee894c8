use Rattle.std.proofs.Common.{refl}
use Rattle.pyr_wire.proofs.Steps.{splits, sends, takes, carried}
use Rattle.pyr_wire.proofs.laws.wire_keeps_order.Goals as goal

pub returns-clause-split : goal.returns-clause-split
returns-clause-split c = splits

pub returns-clause-send : goal.returns-clause-send
returns-clause-send c pass v x is next = sends v.capacity pass v x is refl next

pub returns-clause-receive : goal.returns-clause-receive
returns-clause-receive c = takes

pub returns-clause-carried : goal.returns-clause-carried
returns-clause-carried c = carried
