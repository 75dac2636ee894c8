use Rattle.pyr_lex.proofs.WritingLemmas.{token_written, tokens_written, line_written, all_tokens}
use Rattle.pyr_lex.proofs.line_writing.write_line.Goals as goal

pub loop-token-preserved : goal.loop-token-preserved
loop-token-preserved c = record {
  so_far = token_written _ _ _ _ _ _ _ _ c.loop-token-test.true c.token-item.is c.loop-token.invariant.so_far c.in_ok-write_gap.ensures c.in_ok-write_token.ensures.text;
  tokens = tokens_written _ _ _ c.loop-token-test.true c.token-item.is c.in_ok-write_token.ensures.token c.loop-token.invariant.tokens;
}

pub returns : goal.returns
returns c = record {
  text = line_written _ _ _ _ _ _ c.loop-token-test.false c.loop-token.invariant.so_far c.in_ok-push.ensures.items;
  tokens = all_tokens _ _ c.loop-token-test.false c.loop-token.invariant.tokens;
}
