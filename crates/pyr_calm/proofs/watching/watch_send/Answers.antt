use Rattle.pyr_calm.proofs.Seats.{sent_own, sent_other}
use Rattle.pyr_calm.proofs.watching.watch_send.Goals as goal

pub returns-then-to-q-clause-view : goal.returns-then-to-q-clause-view
returns-then-to-q-clause-view c =
    let r = c.requires in
    (sent_own c.args.viewers.now c.args.takes.now c.args.q c.args.from c.args.to r.from r.to r.seated
    c.index-viewers-from.result c.send.new.self c.count_send.new.self c.in_ok-send.ensures c.count_send.ensures c.if-to-q.true).view

pub returns-then-to-q-clause-seated : goal.returns-then-to-q-clause-seated
returns-then-to-q-clause-seated c =
    let r = c.requires in
    (sent_own c.args.viewers.now c.args.takes.now c.args.q c.args.from c.args.to r.from r.to r.seated
    c.index-viewers-from.result c.send.new.self c.count_send.new.self c.in_ok-send.ensures c.count_send.ensures c.if-to-q.true).seated

pub returns-else-to-q-clause-view : goal.returns-else-to-q-clause-view
returns-else-to-q-clause-view c =
    let r = c.requires in
    (sent_other c.args.viewers.now c.args.takes.now c.args.q c.args.from c.args.to r.from r.to r.seated
    c.index-viewers-from.result c.send.new.self c.in_ok-send.ensures c.if-to-q.false).view

pub returns-else-to-q-clause-seated : goal.returns-else-to-q-clause-seated
returns-else-to-q-clause-seated c =
    let r = c.requires in
    (sent_other c.args.viewers.now c.args.takes.now c.args.q c.args.from c.args.to r.from r.to r.seated
    c.index-viewers-from.result c.send.new.self c.in_ok-send.ensures c.if-to-q.false).seated
