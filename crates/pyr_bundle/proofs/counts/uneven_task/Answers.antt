use Rattle.std.proofs.Common.{ℕ, ◌∙◌, List, length, count_by, sum_by, sym, ap, subst, All, take, arith}
use Rattle.std.proofs.lemmas.List.{take_all}
use Rattle.pyr_bundle.specs.declared.raw_instr.RawInstr.{RawInstr}
use Rattle.pyr_bundle.specs.Tables.{IsExecBelow}
use Rattle.pyr_bundle.specs.Laws.{is_exec, executions}
use Rattle.pyr_bundle.proofs.Instrs.{row_is}
use Rattle.pyr_bundle.proofs.CountLemmas.{by_table, execs_below, sum_few, code_part}
use Rattle.pyr_bundle.proofs.counts.uneven_task.Goals as goal

pub count_execs-requires-clause-tasks : goal.count_execs-requires-clause-tasks
count_execs-requires-clause-tasks c =
    let row = row_is c.args.raw.now.code _ c.loop-code.code-index c.code-item.result c.as_slice-code-items.ensures c.loop-code-test.true c.code-item.is in
    subst (λ (n : ℕ). All (IsExecBelow n) c.as_slice.result.now) (sym (c.loop-code.auto.counts ∙ c.requires.full))
    (subst (λ (x : List RawInstr). All (IsExecBelow (length c.args.raw.now.tasks)) x) (row ∙ sym c.as_slice.ensures) (execs_below c.args.raw.now c.loop-code.code-index c.requires.operands (let n = ap length c.as_slice-code-items.ensures in omega arith)))

pub count_execs-requires-clause-few : goal.count_execs-requires-clause-few
count_execs-requires-clause-few c = λ t l.
    let h = c.loop-code.invariant t l in
    let few = c.requires.few in
    let a = sum_few (is_exec t) (take c.loop-code.code-index c.args.raw.now.code) in
    let row = row_is c.args.raw.now.code _ c.loop-code.code-index c.code-item.result c.as_slice-code-items.ensures c.loop-code-test.true c.code-item.is in
    let b = code_part c.args.raw.now.code c.loop-code.code-index (let n = ap length c.as_slice-code-items.ensures in omega arith) in
    let n = ap length (row ∙ sym c.as_slice.ensures) in
    omega arith

pub returns : goal.returns
unfolding executions
returns c =
    by_table _ c.loop-code.counts (λ t. sum_by (count_by (is_exec t)) c.args.raw.now.code) _ (c.loop-code.auto.counts ∙ c.requires.full)
    (λ t l. c.loop-code.invariant t (let n = c.loop-code.auto.counts in let f = c.requires.full in omega arith)
    ∙ ap (λ (xs : List (List RawInstr)). sum_by (count_by (is_exec t)) xs) (take_all c.loop-code.code-index c.args.raw.now.code (let n = ap length c.as_slice-code-items.ensures in omega arith)))
    c.first_not_one.ensures
