use Rattle.std.proofs.Common.{◌<◌, ◌≤◌, ◌++◌, List, below_more, ap, subst, arith}
use Rattle.std.specs.List.{flat_map}
use Rattle.pyr_graph.specs.System.{task_count}
use Rattle.pyr_graphtext.specs.Line.{Line}
use Rattle.pyr_graphtext.specs.Canonical.{task_lines, all_task_lines, text_of, AreLineTokens}
use Rattle.pyr_graphtext.proofs.PrintingLemmas.{all_written, all_tokens, range_all, range_none, tasks_written_on, tasks_tokens_on}
use Rattle.pyr_graphtext.proofs.printing.write_tasks.Goals as goal

pub loop-number-preserved : goal.loop-number-preserved
loop-number-preserved c =
    let below : c.loop-number.number < task_count c.args.program.now.graph = omega (arith, ap task_count c.graph.ensures.graph) in
    record {
      so_far = tasks_written_on c.args.program.now c.loop-number.number c.loop-number.out.items c.write_task.new.out.items (c.args.out.now.items ++ text_of (all_task_lines c.args.program.now)) below c.loop-number.invariant.so_far c.in_ok-write_task.ensures.text;
      tokens = tasks_tokens_on c.args.program.now c.loop-number.number (AreLineTokens (all_task_lines c.args.program.now)) below c.in_ok-write_task.ensures.tokens c.loop-number.invariant.tokens;
      bodies = below_more _ _ c.loop-number.invariant.bodies c.in_ok-write_task.ensures.body;
    }

pub loop-number-init : goal.loop-number-init
loop-number-init c =
    let all = ap (flat_map (task_lines c.args.program.now)) (range_all (task_count c.args.program.now.graph)) in
    record {
      so_far = ap (λ (ls : List Line). c.args.out.now.items ++ text_of ls) all;
      tokens = subst AreLineTokens all;
      bodies = λ t h. absurd (omega (arith, h));
    }

pub returns : goal.returns
returns c =
    let done : task_count c.args.program.now.graph ≤ c.loop-number.number = omega (arith, ap task_count c.graph.ensures.graph) in
    let none = ap (flat_map (task_lines c.args.program.now)) (range_none c.loop-number.number (task_count c.args.program.now.graph) done) in
    record {
      text = all_written c.loop-number.out.items _ _ none c.loop-number.invariant.so_far;
      tokens = all_tokens _ _ none c.loop-number.invariant.tokens;
      bodies = λ t h. c.loop-number.invariant.bodies t (omega (arith, h, done));
    }
