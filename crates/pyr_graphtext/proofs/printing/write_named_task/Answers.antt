use Rattle.std.proofs.lemmas.Result.{on_ok_weaker}
use Rattle.pyr_body.specs.RoundTrip.{IsReadAgain}
use Rattle.pyr_graphtext.specs.declared.form.Form.TheVariants.{Reads, Writes}
use Rattle.pyr_graphtext.specs.Program.{body_at}
use Rattle.pyr_graphtext.specs.Canonical.{read_names, written_names, body_lines, AreLineTokens}
use Rattle.pyr_graphtext.proofs.PrintingLemmas.{task_written, task_tokens, body_named, names_text, names_tokens, body_text_named, on_ok_always}
use Rattle.pyr_graphtext.proofs.printing.write_named_task.Goals as goal

pub returns-clause-text : goal.returns-clause-text
returns-clause-text c =
    on_ok_weaker c.write_end.result
    (λ l. task_written c.args.program.now c.args.task.0 c.args.out.now.items c.write_head.new.out.items c.write_reads.new.out.items c.write_outputs.new.out.items c.write_body.new.out.items c.write_end.new.out.items
    c.in_ok-write_head.ensures.text
    (names_text Reads _ _ c.as_slice.result.now c.args.names.now.reads (read_names c.args.program.now c.args.task.0) c.as_slice.ensures c.requires.names.reads c.in_ok-write_reads.ensures.text)
    (names_text Writes _ _ c.as_slice-2.result.now c.args.names.now.writes (written_names c.args.program.now c.args.task.0) c.as_slice-2.ensures c.requires.names.writes c.in_ok-write_outputs.ensures.text)
    (body_text_named c.args.program.now c.args.task.0 c.args.names.now c.write_outputs.new.out.items c.write_body.new.out.items c.requires.names c.in_ok-write_body.ensures.text)
    l)
    c.write_end.ensures

pub returns-clause-tokens : goal.returns-clause-tokens
returns-clause-tokens c =
    on_ok_always c.write_end.result
    (task_tokens c.args.program.now c.args.task.0 c.in_ok-write_head.ensures.tokens
    (names_tokens Reads c.as_slice.result.now c.args.names.now.reads (read_names c.args.program.now c.args.task.0) c.as_slice.ensures c.requires.names.reads c.in_ok-write_reads.ensures.tokens)
    (names_tokens Writes c.as_slice-2.result.now c.args.names.now.writes (written_names c.args.program.now c.args.task.0) c.as_slice-2.ensures c.requires.names.writes c.in_ok-write_outputs.ensures.tokens)
    (body_named c.args.program.now c.args.task.0 c.args.names.now (λ rs ws. AreLineTokens (body_lines (body_at c.args.program.now c.args.task.0) rs ws)) c.requires.names c.in_ok-write_body.ensures.tokens))

pub returns-clause-body : goal.returns-clause-body
returns-clause-body c =
    on_ok_always c.write_end.result
    (body_named c.args.program.now c.args.task.0 c.args.names.now (λ rs ws. IsReadAgain (body_at c.args.program.now c.args.task.0) rs ws) c.requires.names c.in_ok-write_body.ensures.body)
