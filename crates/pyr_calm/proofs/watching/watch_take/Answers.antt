use Rattle.std.proofs.Common.{◌∙◌, sym, rules}
use Rattle.pyr_calm.specs.Seats.{no_seat}
use Rattle.pyr_calm.proofs.Seats.{taken_own, taken_other, taken_none}
use Rattle.pyr_calm.proofs.watching.watch_take.Goals as goal

pub returns-in_ok-push-clause-view : goal.returns-in_ok-push-clause-view
returns-in_ok-push-clause-view c =
    let r = c.requires in
    (taken_own c.args.viewers.now c.args.takes.now.items c.args.q c.args.from c.args.to r.from r.to r.seated
    c.index-viewers-from.result c.index-viewers-to.result c.hand_over.new.self c.hand_over.ensures.rest c.count_take.new.self c.in-Some.stamp c.len.result c.push.new.self.items
    c.count_take.ensures (sym c.in-Some.is ∙ c.hand_over.ensures.front) c.if-to-q.true (search rules) c.in_ok-push.ensures.items).view

pub returns-in_ok-push-clause-seated : goal.returns-in_ok-push-clause-seated
returns-in_ok-push-clause-seated c =
    let r = c.requires in
    (taken_own c.args.viewers.now c.args.takes.now.items c.args.q c.args.from c.args.to r.from r.to r.seated
    c.index-viewers-from.result c.index-viewers-to.result c.hand_over.new.self c.hand_over.ensures.rest c.count_take.new.self c.in-Some.stamp c.len.result c.push.new.self.items
    c.count_take.ensures (sym c.in-Some.is ∙ c.hand_over.ensures.front) c.if-to-q.true (search rules) c.in_ok-push.ensures.items).seated

pub returns-else-to-q-clause-view : goal.returns-else-to-q-clause-view
returns-else-to-q-clause-view c =
    let r = c.requires in
    (taken_other c.args.viewers.now c.args.takes.now.items c.args.q c.args.from c.args.to r.from r.to r.seated
    c.index-viewers-from.result c.index-viewers-to-else-to-q.result c.hand_over.new.self c.hand_over.ensures.rest c.hear.new.self c.in-Some.stamp
    c.hear.ensures (sym c.in-Some.is ∙ c.hand_over.ensures.front) c.if-to-q.false).view

pub returns-else-to-q-clause-seated : goal.returns-else-to-q-clause-seated
returns-else-to-q-clause-seated c =
    let r = c.requires in
    (taken_other c.args.viewers.now c.args.takes.now.items c.args.q c.args.from c.args.to r.from r.to r.seated
    c.index-viewers-from.result c.index-viewers-to-else-to-q.result c.hand_over.new.self c.hand_over.ensures.rest c.hear.new.self c.in-Some.stamp
    c.hear.ensures (sym c.in-Some.is ∙ c.hand_over.ensures.front) c.if-to-q.false).seated

pub returns-in_default-clause-view : goal.returns-in_default-clause-view
returns-in_default-clause-view c =
    let r = c.requires in
    taken_none c.args.viewers.now c.args.takes.now.items c.args.q c.args.from c.args.to r.from r.to r.seated
    c.index-viewers-from.result no_seat c.hand_over.new.self c.hand_over.ensures.rest (sym c.in_default.is ∙ c.hand_over.ensures.front)
