use Rattle.std.proofs.Common.{◌≡◌, ◌-◌, not, Option, sym, ap, ◌∙◌, arith}
use Rattle.std.specs.Option.{option_or}
use Rattle.pyr_graphtext.specs.declared.line_fault.LineFault.{LineFault}
use Rattle.pyr_graphtext.specs.Statements.{is_among}
use Rattle.pyr_graphtext.proofs.ListedNames.{not_not, IsChecked-step, IsChecked-end, tells_fault}
use Rattle.pyr_graphtext.proofs.names.check_names.Goals as goal

pub loop-at-preserved : goal.loop-at-preserved
loop-at-preserved c =
    let later : not c.in_ok-is_last.is_last ≡ is_among c.loop-at.later c.index-names-at.result = ap not c.in_ok-is_last.ensures.new ∙ not_not (is_among c.loop-at.later c.index-names-at.result) in
    IsChecked-step c.args.datums.now c.args.others.now c.args.names.now c.loop-at.later c.insert.new.self (c.loop-at.at - 1) c.loop-at.at c.index-names-at.result c.loop-at.fault c.or-fault.result (not c.in_ok-is_last.is_last)
    (omega (arith, c.loop-at-test.true, c.loop-at.invariant.within)) (omega (arith, c.loop-at-test.true)) c.index-names-at.is c.loop-at.invariant later c.in_ok-is_last.ensures.names (c.or-fault.ensures ∙ ap (λ (o : Option LineFault). option_or o c.loop-at.fault) c.name_fault.ensures)

pub returns : goal.returns
returns c = tells_fault (Unit {0}) c.in-Some.fault _ (sym (IsChecked-end c.args.datums.now c.args.others.now c.args.names.now c.loop-at.later c.loop-at.at c.loop-at.fault (omega arith) c.loop-at.invariant) ∙ c.in-Some.is)
