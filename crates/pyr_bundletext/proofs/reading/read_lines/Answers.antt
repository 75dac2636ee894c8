use Rattle.std.proofs.Common.{◌≡◌, ℕ, ◌+◌, suc, ◌<◌, List, ◌∷◌, ◌++◌, length, sym, ap, ◌∙◌, arith}
use Rattle.std.proofs.lemmas.List.{length-append}
use Rattle.std.proofs.lemmas.Bool.{eqb-true}
use Rattle.pyr_bundletext.proofs.ReadingLemmas.{read_no_line, read_step, read_faulty, read_end, no_rest}
use Rattle.pyr_bundletext.proofs.reading.read_lines.Goals as goal

pub returns-in_default-clause-fault : goal.returns-in_default-clause-fault
returns-in_default-clause-fault c =
    read_no_line c.args.text.now c.loop-alloc.reader c.loop-alloc.number c.loop-alloc.rest.now
    c.loop-alloc.invariant (sym c.loop-alloc-test.ensures) c.in_default.ensures.none

pub returns-in-Err-clause-fault : goal.returns-in-Err-clause-fault
returns-in-Err-clause-fault c =
    rw c.at_line.ensures
    (read_faulty c.args.text.now c.loop-alloc.reader c.loop-alloc.number c.loop-alloc.rest.now c.in-Some.line.now c.in-Some.behind.now c.in-Err.fault
    c.loop-alloc.invariant (sym c.loop-alloc-test.ensures) c.in-Some.ensures.cut c.in-Err.ensures.err)

pub loop-alloc-preserved : goal.loop-alloc-preserved
loop-alloc-preserved c =
    read_step c.args.text.now c.loop-alloc.reader c.loop-alloc.number c.loop-alloc.rest.now c.in-Some.line.now c.in-Some.behind.now c.take_line.new.reader
    c.loop-alloc.invariant c.in-Some.ensures.cut c.in-Ok.ensures.ok

pub returns-clause-bundle : goal.returns-clause-bundle
returns-clause-bundle c =
    read_end c.args.text.now c.loop-alloc.reader c.loop-alloc.number c.loop-alloc.rest.now c.loop-alloc.invariant
    (sym c.loop-alloc-test.ensures) (no_rest c.loop-alloc.rest.now (eqb-true _ _ (sym c.if-not-is_empty.ensures)))

-- what stands behind a line is shorter
shorter : (text line behind : List ℕ) → text ≡ line ++ 10 ∷ behind → length behind < length text
shorter text line behind e =
    let n : length text ≡ length line + suc (length behind) = ap length e ∙ length-append line (10 ∷ behind) in
    omega arith

pub loop-alloc-smaller : goal.loop-alloc-smaller
loop-alloc-smaller c =
    shorter c.loop-alloc.rest.now c.in-Some.line.now c.in-Some.behind.now c.in-Some.ensures.cut.parts
