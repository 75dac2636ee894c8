use Rattle.std.proofs.Common.{List, ◌∙◌, sym, ap, subst}
use Rattle.std.specs.Prelude.{Some}
use Rattle.pyr_code.specs.declared.shape.Shape.{Shape}
use Rattle.pyr_code.specs.declared.op.Op.{Op as OpValue}
use Rattle.pyr_code.specs.Seen.{code_of}
use Rattle.pyr_code.specs.Size.{IsWithinLimits as IsCodeWithinLimits}
use Rattle.pyr_bundle.specs.declared.bundle_fault.BundleFault.TheVariants.{Law as LawFault}
use Rattle.pyr_bundle.specs.Raw.{shape_of}
use Rattle.pyr_bundle.proofs.FaultPlaces.{code_is, fault_is, code_refused}
use Rattle.pyr_bundle.proofs.codes.checked_code.Goals as goal

pub verify-requires : goal.verify-requires
verify-requires c =
    subst (λ (s : Shape). IsCodeWithinLimits s (code_of c.in_ok-ops.ops.items)) (sym c.shape_of.ensures)
    (subst (λ (ops : List OpValue). IsCodeWithinLimits (shape_of c.args.task.now) (code_of ops)) (sym (c.in_ok-ops.ensures ∙ c.as_slice.ensures)) c.requires.code)

pub returns-in-Err-BadCode-clause-fault : goal.returns-in-Err-BadCode-clause-fault
returns-in-Err-BadCode-clause-fault c =
    let fault = sym (fault_is c.args.task.now _ _ _ c.shape_of.ensures c.in_ok-ops.ensures c.as_slice.ensures) ∙ sym c.in-Err-BadCode.ensures.fault ∙ ap Some c.in-Err-BadCode.field-0-is in
    code_refused c.args.t c.in-Err-BadCode.place c.in-Err-BadCode.field-0-1 c.args.task.now _ (c.law.ensures ∙ ap (LawFault 4 c.args.t) c.in-Err-BadCode.place-is) fault

pub returns-in-Ok : goal.returns-in-Ok
returns-in-Ok c = record {
  value = code_is c.args.task.now _ _ _ _ c.shape_of.ensures c.in_ok-ops.ensures c.as_slice.ensures c.in-Ok.ensures.value;
  ok = sym (fault_is c.args.task.now _ _ _ c.shape_of.ensures c.in_ok-ops.ensures c.as_slice.ensures) ∙ sym c.in-Ok.ensures.fault;
  fault = tt;
}
