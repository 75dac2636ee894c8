use Rattle.std.proofs.Common.{◌≡◌, List, ◌∷◌, [], ◌++◌, map, drop, refl, ap, subst, ◌∙◌}
use Rattle.std.proofs.lemmas.List.{at_drop_all}
use Rattle.pyr_num.specs.declared.ids.DatumId.{DatumId}
use Rattle.pyr_graph.specs.System.{System}
use Rattle.pyr_graphtext.specs.Canonical.{names_of, print_line, text_of, AreLineTokens}
use Rattle.pyr_graphtext.proofs.PrintingLemmas.{written_on, tokens_on, all_written, all_tokens, prints_more}
use Rattle.pyr_graphtext.proofs.printing.write_prints.Goals as goal

pub loop-datum-init : goal.loop-datum-init
loop-datum-init c = record { so_far = refl; tokens = λ h. h }

pub loop-datum-preserved : goal.loop-datum-preserved
loop-datum-preserved c =
    let parts = prints_more c.args.program.now c.prints-datum-items.result.now c.loop-datum.datum-index _ c.datum_name.result c.loop-datum-test.true c.datum_name.ensures in
    record {
      so_far = written_on c.loop-datum.out.items c.write_print.new.out.items _ (print_line c.datum_name.result ∷ []) _ _ parts c.loop-datum.invariant.so_far c.in_ok-write_print.ensures.text;
      tokens = tokens_on (print_line c.datum_name.result ∷ []) _ _ _ parts (c.in_ok-write_print.ensures.tokens, tt) c.loop-datum.invariant.tokens;
    }

pub returns : goal.returns
returns c =
    let prints : c.prints-datum-items.result.now ≡ c.args.program.now.graph.prints = c.prints-datum-items.ensures ∙ ap (λ (g : System). g.prints) c.graph-graph.ensures.graph in
    let none = at_drop_all (λ (ds : List DatumId). map print_line (names_of c.args.program.now ds)) c.prints-datum-items.result.now c.loop-datum.datum-index c.loop-datum-test.false in
    record {
      text = all_written c.loop-datum.out.items _ _ none c.loop-datum.invariant.so_far ∙ ap (λ (ds : List DatumId). c.args.out.now.items ++ text_of (map print_line (names_of c.args.program.now ds))) prints;
      tokens = subst (λ (ds : List DatumId). AreLineTokens (map print_line (names_of c.args.program.now ds))) prints (all_tokens _ _ none c.loop-datum.invariant.tokens);
    }
