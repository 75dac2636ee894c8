use Rattle.std.proofs.Common.{ℕ, List, map, ap, subst, ◌∙◌}
use Rattle.std.specs.List.{AllByRecursion}
use Rattle.std.proofs.lemmas.Result.{on_ok_weaker}
use Rattle.pyr_num.specs.declared.ids.DatumId.{DatumId}
use Rattle.pyr_code.specs.declared.op.Op.{Op as OpValue}
use Rattle.pyr_code.specs.declared.shape.Shape.{Shape}
use Rattle.pyr_code.specs.Seen.{code_of}
use Rattle.pyr_bundle.specs.Parts.{raw_task_of}
use Rattle.pyr_bundletext.specs.Spelled.{IsWord, IsSpelledCode, IsSpelledTask}
use Rattle.pyr_bundletext.proofs.PrintingLemmas.{on_any, task_written}
use Rattle.pyr_bundletext.proofs.printing.put_task.Goals as goal

abbrev numbers : List DatumId → List ℕ
numbers ds = map (λ (d : DatumId). d.0) ds

pub returns-clause-text : goal.returns-clause-text
returns-clause-text c =
    on_ok_weaker _ (task_written (raw_task_of c.args.task.now) c.from.result (numbers c.as_slice.result.now) (numbers c.as_slice-2.result.now) (code_of c.ops.result.now) _ _ _ _ _ _
    (c.from.ensures ∙ ap (λ (s : Shape). s.locals) c.shape.ensures.value) (ap numbers c.as_slice.ensures) (ap numbers c.as_slice-2.ensures) (ap code_of c.ops.ensures.value)
    c.in_ok-put_line.ensures.text c.in_ok-put_datum_ids.ensures.text c.in_ok-put_datum_ids-2.ensures.text c.in_ok-put_ops.ensures.text) c.put_line-2.ensures.text

pub returns-clause-words : goal.returns-clause-words
returns-clause-words c =
    let words : IsSpelledTask (raw_task_of c.args.task.now) = record {
      reads = subst (λ (ds : List DatumId). AllByRecursion IsWord (numbers ds)) c.as_slice.ensures c.in_ok-put_datum_ids.ensures.words;
      writes = subst (λ (ds : List DatumId). AllByRecursion IsWord (numbers ds)) c.as_slice-2.ensures c.in_ok-put_datum_ids-2.ensures.words;
      code = subst (λ (ops : List OpValue). IsSpelledCode (code_of ops)) c.ops.ensures.value c.in_ok-put_ops.ensures.words;
    } in
    on_any _ words
