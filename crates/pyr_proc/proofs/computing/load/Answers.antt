use Rattle.std.proofs.Common.{◌∙◌, ℕ, ◌≤◌, List, length, ap, arith, get_or}
use Rattle.pyr_num.specs.declared.ids.DatumId.{DatumId}
use Rattle.pyr_machine.specs.Parcels.{words_in}
use Rattle.pyr_bundle.specs.Parts.{length_of}
use Rattle.pyr_num.specs.declared.limits.TheConstants.Limits.{LEAST_LENGTH}
use Rattle.pyr_proc.specs.Entries.{store_of}
use Rattle.pyr_proc.proofs.ComputingLemmas.{AreThere, read_entry, input_fits, load_more}
use Rattle.pyr_proc.proofs.computing.load.Goals as goal

pub add_input-requires-clause-some : goal.add_input-requires-clause-some
add_input-requires-clause-some c =
    let none : DatumId = record { 0 = 0 } in
    let there : AreThere c.args.bundle.now c.args.reads.now c.args.entries.now = record { sized = c.requires.sized; known = c.requires.known; held = c.requires.held } in
    let r = read_entry c.args.bundle.now c.args.reads.now c.args.entries.now c.loop-d.d-index none c.index-entries-d.result there c.loop-d-test.true in
    let some : LEAST_LENGTH ≤ length_of c.args.bundle.now (get_or c.args.reads.now c.loop-d.d-index none).0 = (c.well_formed-2.ensures.lengths _ (c.requires.known c.loop-d.d-index none c.loop-d-test.true)).0 in
    let e = ap (λ (ws : List ℕ). length ws) c.as_slice.ensures in
    let l = r.1 in
    omega arith

pub add_input-requires-clause-words : goal.add_input-requires-clause-words
add_input-requires-clause-words c =
    let none : DatumId = record { 0 = 0 } in
    let there : AreThere c.args.bundle.now c.args.reads.now c.args.entries.now = record { sized = c.requires.sized; known = c.requires.known; held = c.requires.held } in
    let r = read_entry c.args.bundle.now c.args.reads.now c.args.entries.now c.loop-d.d-index none c.index-entries-d.result there c.loop-d-test.true in
    input_fits c.args.bundle.now c.args.cells.now c.loop-d.cells c.args.entries.now c.args.reads.now c.loop-d.d-index none c.as_slice.result.now there c.loop-d-test.true
    (ap (λ (ws : List ℕ). length ws) c.as_slice.ensures ∙ r.1) c.loop-d.invariant c.requires.words

pub loop-d-preserved : goal.loop-d-preserved
loop-d-preserved c =
    let none : DatumId = record { 0 = 0 } in
    let there : AreThere c.args.bundle.now c.args.reads.now c.args.entries.now = record { sized = c.requires.sized; known = c.requires.known; held = c.requires.held } in
    let r = read_entry c.args.bundle.now c.args.reads.now c.args.entries.now c.loop-d.d-index none c.index-entries-d.result there c.loop-d-test.true in
    load_more (λ d. words_in d (store_of c.args.entries.now)) c.args.cells.now c.loop-d.cells _ c.args.reads.now c.loop-d.d-index none c.as_slice.result.now c.loop-d-test.true
    (c.as_slice.ensures ∙ r.0) c.loop-d.invariant c.add_input.ensures
