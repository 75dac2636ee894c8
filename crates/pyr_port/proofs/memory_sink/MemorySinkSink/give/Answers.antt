use Rattle.std.proofs.Common.{◌≡◌, ◌≤◌, ◌-◌, ◌^◌, ◌||◌, inl, inr, true, None, is_some, sym, ap, ◌∙◌, arith}
use Rattle.pyr_port.specs.Plans.{is_planned, next_call, fails_at}
use Rattle.pyr_port.proofs.Counting.{sink_failed, sink_filled, cause_fine, either_way, none_is}
use Rattle.pyr_port.proofs.memory_sink.MemorySinkSink.give.Goals as goal
use Rattle.pyr_port.proofs.memory_sink.MemorySinkSink.give.Goals.{then-fails-via-then-fails, then-fails-via-else-fails+then-is_some}

pub returns-then-fails-clause-cause : goal.returns-then-fails-clause-cause
returns-then-fails-clause-cause c =
    let fail = c.self.inside.plan.fail.items in
    let within : c.self.inside.calls ≤ 2 ^ 64 - 1 = omega arith in
    let planned : c.fails.result ≡ is_planned fail (next_call c.self.inside.calls) = c.fails.ensures ∙ ap (is_planned fail) c.next_call-self-inside.ensures in
    let fails : (is_planned fail (next_call c.self.inside.calls) || is_some c.self.inside.used_up) ≡ true =
    elim c.then-fails.branch [
      | then-fails-via-then-fails w ↦ either_way _ _ (inl (sym planned ∙ w.if-fails.true))
      | then-fails-via-else-fails+then-is_some w ↦ either_way _ _ (inr (sym w.is_some.ensures ∙ w.if-is_some.true))
    ] in
    rw (← c.self.view_is, c.next_call-self-inside.ensures) (sink_failed fail c.self.inside.used_up c.self.inside.calls _ within c.self.invariant.past fails)

pub returns-then-count-room-clause-cause : goal.returns-then-count-room-clause-cause
returns-then-count-room-clause-cause c =
    let fail = c.self.inside.plan.fail.items in
    let within : c.self.inside.calls ≤ 2 ^ 64 - 1 = omega arith in
    let none : c.self.inside.used_up ≡ None = none_is c.self.inside.used_up (sym c.is_some.ensures ∙ c.if-is_some.false) in
    rw (← c.self.view_is, c.next_call-self-inside.ensures, none) (sink_filled fail c.self.inside.calls _ within)

pub returns-else-count-room-clause-cause : goal.returns-else-count-room-clause-cause
returns-else-count-room-clause-cause c =
    let within : c.self.inside.calls ≤ 2 ^ 64 - 1 = omega arith in
    rw (← c.self.view_is, c.next_call-self-inside.ensures) (cause_fine (fails_at c.self.inside.plan.fail.items c.self.inside.used_up) c.self.inside.calls within _)
