use Rattle.std.proofs.Common.{◌≡◌, ◌+◌, false, List, [], ◌∷◌, ◌++◌, length, take, get_or, refl, sym, ap, ◌∙◌, arith}
use Rattle.std.proofs.lemmas.List.{take_more}
use Rattle.pyr_num.specs.declared.name.Name.{Name}
use Rattle.pyr_graph.specs.System.{datum_count}
use Rattle.pyr_graphtext.specs.Statements.{is_among, with_name}
use Rattle.pyr_graphtext.proofs.NumberedNames.{not_in_front}
use Rattle.pyr_simul.proofs.reading.datum_table.Goals as goal

pub loop-datum-preserved : goal.loop-datum-preserved
loop-datum-preserved c =
    let names = c.args.program.now.datum_names in
    let is = c.graph.ensures.program in
    let count : length names ≡ datum_count c.graph.result.now = is.datum_names ∙ ap datum_count (sym c.graph.ensures.graph) in
    let name = get_or names c.loop-datum.datum [] in
    let new : is_among (take c.loop-datum.datum names) name ≡ false = not_in_front names is.datums_differ c.loop-datum.datum (omega (arith, count)) in
    let more : take (c.loop-datum.datum + 1) names ≡ take c.loop-datum.datum names ++ name ∷ [] = take_more names c.loop-datum.datum [] (omega (arith, count)) in
    let put : with_name (take c.loop-datum.datum names) name ≡ take c.loop-datum.datum names ++ name ∷ [] = rw new refl in
    c.in_ok-insert.ensures.names ∙ ap (λ (ns : List Name). with_name ns c.datum_name.result) c.loop-datum.invariant ∙ ap (with_name (take c.loop-datum.datum names)) c.datum_name.ensures ∙ put ∙ sym more
