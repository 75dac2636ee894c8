use Rattle.std.proofs.Common.{sym, ◌∙◌}
use Rattle.pyr_lex.proofs.Fronts.{front_only, symbol_is_read}
use Rattle.pyr_lex.proofs.lexer.front_token.Goals as goal

pub returns : goal.returns
returns c =
    let value = symbol_is_read c.args.bytes.now c.text.result.now c.in_ok-symbol.symbol (rw c.run_len-run.ensures.run at c.if-run-gt0.false) (sym c.in_ok-symbol.was ∙ c.at_front.ensures) c.text.ensures in
    let front = front_only _ _ (sym value) in
    record { value = value; some = front.some; within = front.within }
