use Rattle.std.proofs.Common.{subst}
use Rattle.std.proofs.lemmas.Result.{on_ok_weaker}
use Rattle.pyr_body.specs.RoundTrip.{IsReadAgain}
use Rattle.pyr_graphtext.specs.Program.{body_at}
use Rattle.pyr_graphtext.proofs.PrintingLemmas.{body_written, body_tokens, on_ok_always, on_ok_items}
use Rattle.pyr_graphtext.proofs.printing.write_body.Goals as goal

pub returns-clause-text : goal.returns-clause-text
returns-clause-text c =
    on_ok_weaker c.extend_from_slice.result
    (λ h. body_written (body_at c.args.program.now c.args.task.0) c.body.result.now c.args.names.now.reads c.args.names.now.writes c.args.out.now.items c.extend_from_slice.new.self.items c.as_slice.result.now c.in_ok-text.text.items
    c.body.ensures c.as_slice.ensures.value c.in_ok-text.ensures.text h)
    (on_ok_items c.extend_from_slice.result c.extend_from_slice.new.self.items _ _ c.extend_from_slice.ensures.items)

pub returns-clause-tokens : goal.returns-clause-tokens
returns-clause-tokens c =
    on_ok_always c.extend_from_slice.result
    (body_tokens (body_at c.args.program.now c.args.task.0) c.body.result.now c.args.names.now.reads c.args.names.now.writes c.body.ensures c.in_ok-text.ensures.tokens)

pub returns-clause-body : goal.returns-clause-body
returns-clause-body c =
    on_ok_always c.extend_from_slice.result
    (subst (λ b. IsReadAgain b c.args.names.now.reads c.args.names.now.writes) c.body.ensures c.in_ok-text.ensures.read_again)
