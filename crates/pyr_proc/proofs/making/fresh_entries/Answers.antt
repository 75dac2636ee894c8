use Rattle.std.proofs.Common.{◌∙◌, ◌+◌, ◌≤◌, sym, ap, List, length, get_or, subst, arith}
use Rattle.pyr_bundle.specs.declared.instr.Instr.{Instr}
use Rattle.pyr_bundle.specs.declared.instr.Instr.TheVariants.{Recv}
use Rattle.pyr_bundle.specs.Parts.{code_at}
use Rattle.pyr_proc.specs.declared.entry.Entry.{Entry}
use Rattle.pyr_proc.specs.Making.{ArePrepared, Prepares, written_at}
use Rattle.pyr_proc.proofs.EntryLemmas.{store_none}
use Rattle.pyr_proc.proofs.FittedLemmas.{written_back}
use Rattle.pyr_proc.proofs.MakingLemmas.{known_at, prepared_more, entries_fit}
use Rattle.pyr_proc.proofs.making.fresh_entries.Goals as goal

pub prepare_for-requires-clause-known : goal.prepare_for-requires-clause-known
prepare_for-requires-clause-known c = known_at c.args.bundle.now c.args.p.0 c.code-instr-items.result.now c.loop-instr.instr-index _ c.well_formed-2.ensures c.code-instr-items.ensures c.loop-instr-test.true

pub loop-instr-preserved : goal.loop-instr-preserved
loop-instr-preserved c =
    let same = written_back c.loop-instr.entries.len c.prepare_for.new.entries c.loop-instr.entries.items
    (sym c.deref_mut.ensures.len ∙ ap (λ (l : List Entry). length l) c.deref_mut.ensures.value)
    (c.in_ok-prepare_for.ensures.count ∙ ap (λ (l : List Entry). length l) c.deref_mut.ensures.value) in
    let none : Instr = Recv (record { 0 = 0 }) (record { 0 = 0 }) in
    let instr : Instr = get_or c.code-instr-items.result.now c.loop-instr.instr-index none in
    subst (ArePrepared c.args.bundle.now c.args.p.0 (c.loop-instr.instr-index + 1)) (sym same)
    (prepared_more c.args.bundle.now c.args.p.0 c.loop-instr.instr-index c.code-instr-items.result.now none c.loop-instr.entries.items c.prepare_for.new.entries c.code-instr-items.ensures c.loop-instr-test.true c.loop-instr.invariant
    (subst (λ (l : List Entry). Prepares c.args.bundle.now (written_at c.args.bundle.now instr) l c.prepare_for.new.entries) c.deref_mut.ensures.value c.in_ok-prepare_for.ensures))

pub returns-clause-fit : goal.returns-clause-fit
returns-clause-fit c =
    let more : length (code_at c.args.bundle.now c.args.p.0) ≤ c.loop-instr.instr-index = (let e = ap (λ (l : List Instr). length l) c.code-instr-items.ensures in omega arith) in
    entries_fit c.args.bundle.now c.args.p.0 c.loop-instr.instr-index c.loop-instr.entries.items more c.loop-instr.invariant

pub returns-clause-empty : goal.returns-clause-empty
returns-clause-empty c = store_none 0 c.loop-instr.entries.items c.loop-instr.invariant.unheld
