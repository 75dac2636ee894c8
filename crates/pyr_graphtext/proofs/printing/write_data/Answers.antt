use Rattle.std.proofs.Common.{◌<◌, ◌≤◌, ◌++◌, List, map, ap, subst, arith}
use Rattle.pyr_graph.specs.System.{datum_count}
use Rattle.pyr_graphtext.specs.Line.{Line}
use Rattle.pyr_graphtext.specs.Canonical.{data_line, data_lines, text_of, AreLineTokens}
use Rattle.pyr_graphtext.proofs.PrintingLemmas.{all_written, all_tokens, range_all, range_none, data_written_on, data_tokens_on}
use Rattle.pyr_graphtext.proofs.printing.write_data.Goals as goal

pub loop-number-preserved : goal.loop-number-preserved
loop-number-preserved c =
    let below : c.loop-number.number < datum_count c.args.program.now.graph = omega (arith, ap datum_count c.graph.ensures.graph) in
    record {
      so_far = data_written_on c.args.program.now c.loop-number.number c.loop-number.out.items c.write_datum.new.out.items (c.args.out.now.items ++ text_of (data_lines c.args.program.now)) below c.loop-number.invariant.so_far c.in_ok-write_datum.ensures.text;
      tokens = data_tokens_on c.args.program.now c.loop-number.number (AreLineTokens (data_lines c.args.program.now)) below c.in_ok-write_datum.ensures.tokens c.loop-number.invariant.tokens;
    }

pub loop-number-init : goal.loop-number-init
loop-number-init c =
    let all = ap (map (data_line c.args.program.now)) (range_all (datum_count c.args.program.now.graph)) in
    record {
      so_far = ap (λ (ls : List Line). c.args.out.now.items ++ text_of ls) all;
      tokens = subst AreLineTokens all;
    }

pub returns : goal.returns
returns c =
    let done : datum_count c.args.program.now.graph ≤ c.loop-number.number = omega (arith, ap datum_count c.graph.ensures.graph) in
    let none = ap (map (data_line c.args.program.now)) (range_none c.loop-number.number (datum_count c.args.program.now.graph) done) in
    record {
      text = all_written c.loop-number.out.items _ _ none c.loop-number.invariant.so_far;
      tokens = all_tokens _ _ none c.loop-number.invariant.tokens;
    }
