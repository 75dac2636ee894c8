use Rattle.std.proofs.Common.{◌≡◌, refl, rules, subst, sym}
use Rattle.std.specs.Prelude.{List, None}
use Rattle.std.specs.Result.{result_err}
use Rattle.pyr_code.specs.declared.op.Op.{Op as OpValue}
use Rattle.pyr_code.specs.Seen.{code_of}
use Rattle.pyr_code.specs.Size.{IsWithinLimits}
use Rattle.pyr_code.specs.WellFormed.{IsWellFormed}
use Rattle.pyr_code.specs.Fault.{first_fault}
use Rattle.pyr_code.proofs.FirstFault.{first_fault-none, accepted}
use Rattle.pyr_code.proofs.verified.verify.Goals as goal

pub returns-in_err-walk-clause-accepted : goal.returns-in_err-walk-clause-accepted
returns-in_err-walk-clause-accepted c =
    let e : result_err c.from_residual.result ≡ first_fault c.args.shape (code_of c.args.code.items) = search rules in
    accepted c.args.shape (code_of c.args.code.items) c.from_residual.result e

pub returns-clause-accepted : goal.returns-clause-accepted
returns-clause-accepted c =
    let e : first_fault c.args.shape (code_of c.args.code.items) ≡ None = search rules in
    (λ _. first_fault-none c.args.shape (code_of c.args.code.items) e, λ _. refl)

pub invariant_of-result : goal.invariant_of-result
invariant_of-result c =
    let e : first_fault c.args.shape (code_of c.args.code.items) ≡ None = search rules in
    record {
      well_formed = subst (λ (x : List OpValue). IsWellFormed c.args.shape (code_of x)) (sym c.from_vec.ensures) (first_fault-none c.args.shape (code_of c.args.code.items) e);
      limits = subst (λ (x : List OpValue). IsWithinLimits c.args.shape (code_of x)) (sym c.from_vec.ensures) c.requires;
    }
