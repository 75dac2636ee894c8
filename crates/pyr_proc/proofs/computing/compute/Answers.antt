use Rattle.std.proofs.Common.{◌∙◌, List, sym, ap, map, length, subst}
use Rattle.std.specs.List.{list_all}
use Rattle.pyr_num.specs.Cells.{CellLists}
use Rattle.pyr_num.specs.declared.ids.DatumId.{DatumId}
use Rattle.pyr_bundle.specs.declared.bundle_task.BundleTask.{BundleTask}
use Rattle.pyr_bundle.specs.Parts.{length_of}
use Rattle.pyr_machine.specs.State.{numbers}
use Rattle.pyr_machine.specs.Machine.{holds}
use Rattle.pyr_machine.specs.Parcels.{parcel_tag}
use Rattle.pyr_machine.specs.Station.{AllBelow}
use Rattle.pyr_machine.proofs.Enabled.{known_reads, known_writes}
use Rattle.pyr_machine.proofs.ComputeLemmas.{zero_lengths}
use Rattle.pyr_proc.specs.Entries.{store_of}
use Rattle.pyr_proc.specs.Computing.{size_at}
use Rattle.pyr_proc.proofs.ComputingLemmas.{AreThere, task_fits, sizes_are}
use Rattle.pyr_proc.proofs.computing.compute.Goals as goal

pub load-requires-clause-known : goal.load-requires-clause-known
load-requires-clause-known c =
    known_reads c.args.bundle.now c.args.t.0 c.as_slice.result.now c.well_formed-2.ensures c.requires.there (c.as_slice.ensures ∙ ap (λ (t : BundleTask). t.reads) c.task-task.ensures)

pub open-requires-clause-known : goal.open-requires-clause-known
open-requires-clause-known c =
    known_writes c.args.bundle.now c.args.t.0 c.as_slice-2.result.now c.well_formed-2.ensures c.requires.there (c.as_slice-2.ensures ∙ ap (λ (t : BundleTask). t.writes) c.task-task.ensures)

pub open-requires-clause-words : goal.open-requires-clause-words
open-requires-clause-words c =
    let e = c.as_slice.ensures ∙ ap (λ (t : BundleTask). t.reads) c.task-task.ensures in
    let there : AreThere c.args.bundle.now c.as_slice.result.now c.args.entries.now = record {
      sized = c.requires.sized;
      known = known_reads c.args.bundle.now c.args.t.0 c.as_slice.result.now c.well_formed-2.ensures c.requires.there e;
      held = ap (list_all (λ (d : DatumId). holds parcel_tag d.0 (store_of c.args.entries.now))) e ∙ c.requires.held;
    } in
    task_fits c.args.bundle.now c.args.t.0 c.args.cells.now c.load.new.cells c.args.entries.now c.as_slice.result.now c.as_slice-2.result.now there e
    (c.as_slice-2.ensures ∙ ap (λ (t : BundleTask). t.writes) c.task-task.ensures) c.requires.words
    (ap (λ (s : CellLists). s.inputs) c.load.ensures)
    (ap (λ (s : CellLists). s.word_room) c.load.ensures ∙ ap (λ (s : CellLists). s.word_room) c.clear.ensures)

pub unload-requires-clause-known : goal.unload-requires-clause-known
unload-requires-clause-known c =
    subst (λ n. AllBelow n c.as_slice-3.result.now) (sym c.requires.sized.count)
    (known_writes c.args.bundle.now c.args.t.0 c.as_slice-3.result.now c.well_formed-2.ensures c.requires.there (c.as_slice-3.ensures ∙ ap (λ (t : BundleTask). t.writes) c.task-task.ensures))

pub unload-requires-clause-fit : goal.unload-requires-clause-fit
unload-requires-clause-fit c =
    let writes = c.as_slice-3.ensures ∙ ap (λ (t : BundleTask). t.writes) c.task-task.ensures in
    c.exec.ensures.lengths
    ∙ ap (λ (s : CellLists). map length s.outputs) c.open.ensures
    ∙ zero_lengths c.args.bundle.now (numbers c.as_slice-2.result.now)
    ∙ ap (λ (ds : List DatumId). map (length_of c.args.bundle.now) (numbers ds)) (c.as_slice-2.ensures ∙ sym c.as_slice-3.ensures ∙ writes)
    ∙ sizes_are c.args.bundle.now c.args.entries.now _ _ c.requires.writes (λ d h. h)
    ∙ ap (λ (ds : List DatumId). map (size_at c.args.entries.now) (numbers ds)) (sym writes)
