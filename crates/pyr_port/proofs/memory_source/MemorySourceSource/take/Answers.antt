use Rattle.std.proofs.Common.{◌≡◌, ◌≤◌, ◌-◌, ◌^◌, true, sym, ap, ◌∙◌, arith}
use Rattle.pyr_port.specs.Plans.{is_planned, next_call}
use Rattle.pyr_port.proofs.Counting.{cause_failed, cause_fine}
use Rattle.pyr_port.proofs.Moving.{moved}
use Rattle.pyr_port.proofs.memory_source.MemorySourceSource.take.Goals as goal

pub returns-then-fails-clause-cause : goal.returns-then-fails-clause-cause
returns-then-fails-clause-cause c =
    let test = is_planned c.self.inside.plan.fail.items in
    let within : c.self.inside.calls ≤ 2 ^ 64 - 1 = omega arith in
    let fails : test (next_call c.self.inside.calls) ≡ true = ap test (sym c.next_call-self-inside.ensures) ∙ sym c.fails.ensures ∙ c.if-fails.true in
    rw (← c.self.view_is, c.next_call-self-inside.ensures) (cause_failed test c.self.inside.calls within _ (λ _. fails))

pub returns-clause-cause : goal.returns-clause-cause
returns-clause-cause c =
    let within : c.self.inside.calls ≤ 2 ^ 64 - 1 = omega arith in
    rw (← c.self.view_is, c.next_call-self-inside.ensures) (cause_fine (is_planned c.self.inside.plan.fail.items) c.self.inside.calls within _)

pub returns-clause-bytes : goal.returns-clause-bytes
returns-clause-bytes c =
    rw (← c.self.view_is)
    (moved c.self.inside.bytes.items c.deref.result.now c.self.inside.at c.self.inside.plan.most c.min.result c.min-count.result c.args.into.now c.copy_from_slice.new.self
    c.deref.ensures.value c.self.inside.plan.some c.min.ensures c.min-count.ensures c.copy_from_slice.ensures.after)
