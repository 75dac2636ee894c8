use Rattle.std.proofs.Common.{sym, ap, ◌∙◌, length, arith}
use Rattle.pyr_bundle.specs.declared.raw_instr.RawInstr.TheVariants.{Recv}
use Rattle.pyr_bundle.specs.Laws.{by_instr, fits_at, operands}
use Rattle.pyr_bundle.proofs.Scans.{before_all, broken}
use Rattle.pyr_bundle.proofs.Instrs.{at_place, row_ends, instr_more, row_more, instr_breach}
use Rattle.pyr_bundle.proofs.operands.check_operands.Goals as goal

pub returns-then-not-fits-clause-fault : goal.returns-then-not-fits-clause-fault
unfolding operands
returns-then-not-fits-clause-fault c =
    let at = at_place c.args.raw.now.code _ c.loop-p.p c.code-item.result _ c.loop-i.i (Recv 0 0) c.as_slice-code-items.ensures c.loop-p-test.true c.code-item.is c.as_slice-instr-items.ensures c.loop-i-test.true in
    broken 6 _ _ _ _ c.law.ensures (instr_breach c.args.raw.now.code (fits_at c.args.raw.now) _ _ _ at (sym c.fits.ensures ∙ c.if-not-fits.true) c.loop-i.invariant)

pub loop-i-preserved : goal.loop-i-preserved
unfolding operands
loop-i-preserved c =
    let at = at_place c.args.raw.now.code _ c.loop-p.p c.code-item.result _ c.loop-i.i (Recv 0 0) c.as_slice-code-items.ensures c.loop-p-test.true c.code-item.is c.as_slice-instr-items.ensures c.loop-i-test.true in
    instr_more c.args.raw.now.code (fits_at c.args.raw.now) _ _ _ at (sym c.fits.ensures ∙ c.if-not-fits.false) c.loop-i.invariant

pub loop-p-preserved : goal.loop-p-preserved
unfolding operands
loop-p-preserved c =
    row_more c.args.raw.now.code (fits_at c.args.raw.now) _ _ (row_ends c.args.raw.now.code _ c.loop-p.p c.code-item.result _ c.loop-i.i c.as_slice-code-items.ensures c.loop-p-test.true c.code-item.is c.as_slice-instr-items.ensures (omega arith)) c.loop-i.invariant

pub returns-clause-ok : goal.returns-clause-ok
unfolding operands
returns-clause-ok c =
    before_all (by_instr c.args.raw.now.code (fits_at c.args.raw.now)) c.loop-p.p (let n = ap length c.as_slice-code-items.ensures in omega arith) c.loop-p.invariant
