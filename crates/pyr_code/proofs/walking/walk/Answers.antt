use Rattle.std.proofs.Common.{◌≡◌, sym, ap, ◌∙◌, rules}
use Rattle.std.specs.Prelude.{Err}
use Rattle.std.specs.Result.{result_err}
use Rattle.pyr_code.specs.Seen.{code_of}
use Rattle.pyr_code.proofs.WalkLemmas.{whole_err, whole_end}
use Rattle.pyr_code.proofs.walking.walk.Goals as goal

pub returns-in_err-end : goal.returns-in_err-end
returns-in_err-end c =
    let e : c.from_residual.result ≡ Err c.in_err-end.field-0.0 = search rules in
    ap result_err e ∙ sym (whole_err c.args.shape (code_of c.args.ops.now) _ c.in_err-end.ensures.fault)

pub returns : goal.returns
returns c =
    c.expect_height.ensures
    ∙ whole_end c.args.shape (code_of c.args.ops.now) c.in_ok-end.end.place c.in_ok-end.end.height c.in_ok-end.ensures.fault c.in_ok-end.ensures.place c.in_ok-end.ensures.height
