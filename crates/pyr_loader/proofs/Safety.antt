-- Every interleaving of a bundle that has a complete run.
use Rattle.std.proofs.Common.{◌≡◌, ℕ, ◌<◌, ◌≤◌, List, [], length, map, slice_index_or, refl, sym, ◌∙◌, ap, subst, arith}
use Rattle.std.proofs.lemmas.List.{length-map, get_or-map}
use Rattle.pyr_num.specs.declared.ids.DatumId.{DatumId}
use Rattle.pyr_num.specs.declared.parcel.Parcel.{Parcel}
use Rattle.pyr_net.specs.Run.{IsCompleteRun}
use Rattle.pyr_net.proofs.Completing.{unended_goes_on, is_bounded, ended_alike}
use Rattle.pyr_net.proofs.Occupied.{run_fits}
use Rattle.pyr_seq.specs.Sequential.{value_of}
use Rattle.pyr_bundle.specs.declared.instr.Instr.TheVariants.{Exec}
use Rattle.pyr_bundle.specs.Parts.{Parts, IsBundle, code_at, task_id}
use Rattle.pyr_bundle.specs.Values.{IsOrderOf, tasks_of, printed}
use Rattle.pyr_bundle.proofs.WellFormedLemmas.{well_formed}
use Rattle.pyr_machine.specs.Machine.{LocalState, start, instr_at}
use Rattle.pyr_machine.specs.Parcels.{parcels, state_rules}
use Rattle.pyr_machine.specs.Good.{IsDone, IsGood, HasCompleteRun, AreOutputs, IsOutput, print_at}
use Rattle.pyr_machine.specs.State.{numbers}
use Rattle.pyr_machine.proofs.Words.{complete_alike}
use Rattle.pyr_machine.proofs.Executed.{run_holds}
use Rattle.pyr_machine.proofs.Output.{print_number, known_print, stands_within, ended_none, ended_past}
use Rattle.pyr_machine.proofs.Ordered.{has_order}
use Rattle.pyr_machine.proofs.Sound.{words_valued, words_right}
use Rattle.pyr_machine.proofs.Printed.{outputs_printed}
use Rattle.pyr_loader.specs.Safe.{IsSafe, reached, IsInterleaving, IsFinished}
use Rattle.pyr_loader.proofs.Outcomes.{one_ended}

module _ (b : Parts) (steps : ℕ) (is : IsBundle b) (good : IsGood b steps) (frame : ℕ) where
  words : HasCompleteRun (parcels b frame) b steps
  words = (complete_alike b frame steps).1 good

  complete : IsCompleteRun (state_rules b frame) start words.run
  complete = record { is_run = words.is_run; complete = words.done.complete }

  bounded : (run : List ℕ) → IsInterleaving b frame run → length run ≤ steps
  bounded run r =
      subst (λ n. length run ≤ n) words.count
      (is_bounded (state_rules b frame) start words.run complete run r)

  steps_are : (run : List ℕ) → IsInterleaving b frame run → IsFinished b frame (reached b frame run) → length run ≡ steps
  steps_are run r ended =
      (ended_alike (state_rules b frame) start words.run complete run r ended).0 ∙ words.count

  done : (run : List ℕ) → IsInterleaving b frame run → IsFinished b frame (reached b frame run) → IsDone (parcels b frame) b (reached b frame run)
  done run r ended =
      subst (IsDone (parcels b frame) b) (one_ended (state_rules b frame) start words.run run words.is_run words.done.complete.ended r ended) words.done

  -- what a printed datum's writer has left in the store of its processor
  output : (run order : List ℕ) → IsInterleaving b frame run → IsFinished b frame (reached b frame run) → IsOrderOf b frame order → (i : ℕ) → i < length b.prints →
      IsOutput b (reached b frame run) (print_at b i) (slice_index_or (printed b frame order) i [])
  output run order r ended top i l =
      let d = print_at b i in
      let w = reached b frame run in
      let (t, lt, wr) = (well_formed b is).some_writer d (known_print b i is l) in
      let (p, j, st) = (well_formed b is).some_exec t lt in
      let none = ended_none (parcels b frame) b (instr_at b p (w.locals p)) (w.locals p) (ended p (stands_within b p j (Exec (task_id t)) st)) in
      let past = ended_past (code_at b p) (w.locals p).place j (Exec (task_id t)) none st in
      let there = run_holds b frame run r p j t d past st (lt, wr) in
      record {
        processor = p;
        place = j;
        task = t;
        executes = st;
        writes = wr;
        there = there;
        is = value i l ∙ sym (words_right b frame order d (w.locals p).store ((words_valued b frame order run is top r).stores p) there);
      }
    where
      value : (i : ℕ) → i < length b.prints → slice_index_or (printed b frame order) i [] ≡ value_of (tasks_of b frame) order (print_at b i)
      value i l =
          get_or-map (value_of (tasks_of b frame) order) (numbers b.prints) i 0 [] (let k = length-map b.prints (λ (d : DatumId). d.0) in omega arith)
          ∙ ap (value_of (tasks_of b frame) order) (print_number b i l)

  outputs : (run order : List ℕ) → IsInterleaving b frame run → IsFinished b frame (reached b frame run) → IsOrderOf b frame order → AreOutputs b (reached b frame run) (printed b frame order)
  outputs run order r ended top = record {
    count = length-map (numbers b.prints) (value_of (tasks_of b frame) order) ∙ length-map b.prints (λ (d : DatumId). d.0);
    each = output run order r ended top;
  }

-- a bundle that has a complete run is safe
pub safe : (b : Parts) (steps : ℕ) → IsBundle b → IsGood b steps → IsSafe b steps
safe b steps is good = record {
  goes_on = λ frame run r unfinished.
      unended_goes_on (state_rules b frame) start (words b steps is good frame).run
      (complete b steps is good frame) run r unfinished;
  bounded = bounded b steps is good;
  fits = λ frame run r. run_fits (state_rules b frame) start run r (λ p q. omega arith);
  steps_are = steps_are b steps is good;
  done = done b steps is good;
  alike = λ frame run other r o f g. one_ended (state_rules b frame) start run other r f o g;
  outputs = outputs b steps is good;
  no_others = λ frame run order lists r ended top h. outputs_printed b frame order run lists is top r h;
  order = λ frame. has_order b steps frame is good;
  finishes = λ frame. let w = (complete_alike b frame steps).1 good in (w.run, w.is_run, w.done.complete.ended);
}
