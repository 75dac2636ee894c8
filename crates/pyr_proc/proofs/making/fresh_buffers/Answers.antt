use Rattle.std.proofs.Common.{arith}
use Rattle.pyr_bundle.specs.declared.instr.Instr.{Instr}
use Rattle.pyr_bundle.specs.declared.instr.Instr.TheVariants.{Recv}
use Rattle.pyr_proc.proofs.MakingLemmas.{known_at, buffered_more, buffers_fit}
use Rattle.pyr_proc.proofs.making.fresh_buffers.Goals as goal

pub buffer_for-requires : goal.buffer_for-requires
buffer_for-requires c = known_at c.args.bundle.now c.args.p.0 c.code-code.result.now c.loop-instr.instr-index _ c.well_formed-2.ensures c.code-code.ensures c.loop-instr-test.true

pub loop-instr-preserved : goal.loop-instr-preserved
loop-instr-preserved c =
    let none : Instr = Recv (record { 0 = 0 }) (record { 0 = 0 }) in
    let i = c.loop-instr.invariant in (
      buffered_more c.args.bundle.now c.args.p.0 c.loop-instr.instr-index c.code-code.result.now none c.loop-instr.buffers.items c.push_reserved.new.self.items c.in_ok-buffer_for.field-0 c.push_reserved.ensures.items c.code-code.ensures c.loop-instr-test.true i.0 c.in_ok-buffer_for.ensures,
      omega (arith, c.push_reserved.ensures.len, i.1),
      omega (arith, c.push_reserved.ensures.capacity, i.2),
    )

pub returns : goal.returns
returns c = buffers_fit c.args.bundle.now c.args.p.0 c.loop-instr.instr-index c.code-code.result.now c.loop-instr.buffers.items c.code-code.ensures (omega arith) (omega arith) c.loop-instr.invariant.0
