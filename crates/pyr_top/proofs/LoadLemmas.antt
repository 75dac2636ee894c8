-- A compiled bundle is one that the loader accepts, and what the run of a loaded one prints.
use Rattle.std.proofs.Common.{◌≡◌, ◌≤◌, ℕ, List, length, map, ap, ◌∙◌}
use Rattle.std.proofs.lemmas.List.{length-map}
use Rattle.pyr_num.specs.declared.limits.TheConstants.Limits.{INPUT}
use Rattle.pyr_num.specs.declared.ids.DatumId.{DatumId}
use Rattle.pyr_graphtext.specs.Program.{ProgramParts}
use Rattle.pyr_bundle.specs.Parts.{Parts, IsBundle, raw_of}
use Rattle.pyr_bundletext.specs.Answer.{StandsFor as IsTextOf}
use Rattle.pyr_machine.specs.Good.{IsGood, Loads, Prints}
use Rattle.pyr_machine.specs.Counts.{step_count}
use Rattle.pyr_emit.specs.Meaning.{MeansTheSame}
use Rattle.pyr_loader.specs.Answer.{IsLoadOf}
use Rattle.pyr_loader.specs.Safe.{IsSafe}
use Rattle.pyr_loader.proofs.Safety.{safe}
use Rattle.pyr_seq.specs.Sequential.{value_of}
use Rattle.pyr_bundle.specs.Values.{tasks_of, printed}
use Rattle.pyr_top.specs.OutputsText.{bundle_outputs}
use Rattle.pyr_top.specs.Answers.{IsRunOutput}
use Rattle.pyr_top.specs.Responding.{IsPrintedBy}
use Rattle.pyr_verify.proofs.LoadLemmas.{loads_of, is_accepted}
use Rattle.pyr_top.specs.Headline.{PrintsTheSame, RunsSafely, RunsAsTold}

pub runs_safely : (output : List ℕ) (p : ProgramParts) (b : Parts) → IsBundle b → IsGood b (step_count b) → MeansTheSame p b → PrintsTheSame p b → IsTextOf output (raw_of b) → length output ≤ INPUT → RunsSafely p output
runs_safely output p b bundle good means prints text fits =
    record {
      fits = fits;
      loaded = loads_of b;
      loads = is_accepted output b bundle good text;
      safe = safe b (step_count b) bundle good;
      means = means;
      prints = prints;
    }

-- there is a list for each printed datum
pub printed_count : (b : Parts) (steps : ℕ) (lists : List (List ℕ)) → IsBundle b → IsGood b steps → Prints b 0 lists → length lists ≡ length b.prints
printed_count b steps lists bundle good prints =
    let (order, ordered) = (safe b steps bundle good).order 0 in
    ap (λ (l : List (List ℕ)). length l) (prints order ordered)
    ∙ length-map (map (λ (d : DatumId). d.0) b.prints) (value_of (tasks_of b 0) order)
    ∙ length-map b.prints (λ (d : DatumId). d.0)

pub printed_by : (l : Loads) (lists : List (List ℕ)) (text : List ℕ) → Prints l.bundle 0 lists → text ≡ bundle_outputs l.bundle lists → IsPrintedBy l text
printed_by l lists text prints is order ordered = is ∙ ap (bundle_outputs l.bundle) (prints order ordered)

pub run_output : (l : Loads) (output : List ℕ) → IsSafe l.bundle l.steps → IsPrintedBy l output → IsRunOutput l output
run_output l output is_safe printed_so =
    let (order, ordered) = is_safe.order 0 in
    record { order = order; ordered = ordered; text = printed_so order ordered }

pub runs_as_told : (input output : List ℕ) (l : Loads) → IsLoadOf input l → IsSafe l.bundle l.steps → IsPrintedBy l output → RunsAsTold input output
runs_as_told input output l loads is_safe printed_so =
    record {
      loaded = l;
      loads = loads;
      safe = is_safe;
      every_run = λ run is finished.
          let (order, ordered) = is_safe.order 0 in
          record {
            lists = printed l.bundle 0 order;
            outputs = is_safe.outputs 0 run order is finished ordered;
            text = printed_so order ordered;
          };
      one_by_one = printed_so;
    }
