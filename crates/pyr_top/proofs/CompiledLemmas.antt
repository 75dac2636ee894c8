-- What the run of a compiled bundle prints is what its program prints.
use Rattle.std.proofs.Common.{◌≡◌, ℕ, ◌<◌, List, [], ◌∷◌, map, length, refl, sym, ap, subst, ◌∙◌, arith}
use Rattle.std.specs.Prelude.{All, get_or}
use Rattle.std.proofs.lemmas.List.Elements.{All-head, All-tail}
use Rattle.std.proofs.lemmas.List.FromFn.{length-map-range_with_len, get_or-map-range_with_len}
use Rattle.pyr_num.specs.declared.ids.DatumId.{DatumId}
use Rattle.pyr_num.specs.declared.name.Name.{Name}
use Rattle.pyr_graph.specs.System.{datum_count, datum_numbers}
use Rattle.pyr_graphtext.specs.Program.{ProgramParts, datum_name}
use Rattle.pyr_bundle.specs.declared.raw_datum.RawDatum.{RawDatum}
use Rattle.pyr_bundle.specs.Parts.{Parts, IsBundle, raw_of, datum_at}
use Rattle.pyr_bundle.specs.Values.{printed}
use Rattle.pyr_machine.specs.Good.{Loads}
use Rattle.pyr_machine.proofs.Output.{prints_below}
use Rattle.pyr_emit.specs.Emission.{datum_of, datums_of}
use Rattle.pyr_emit.specs.Meaning.{MeansTheSame}
use Rattle.pyr_compile.specs.Compiled.{IsCompiled}
use Rattle.pyr_loader.specs.Laws.{OneAnswerIsTold}
use Rattle.pyr_loader.proofs.OneAnswer.{one_answer}
use Rattle.pyr_verify.proofs.SummaryLemmas.{printed_is}
use Rattle.pyr_top.specs.OutputsText.{output_lines, printed_names, outputs_text, bundle_names}
use Rattle.pyr_top.specs.Answers.{IsPrinted, IsRunOutput, IsTextFor, IsTextOfLoaded}
use Rattle.pyr_top.specs.Headline.{PrintsTheSame, RunsSafely, CompilesSafely}
use Rattle.pyr_graphtext.specs.Answer.{StandsFor}

module _ (p : ProgramParts) (b : Parts) (datums : b.datums ≡ datums_of p) where
  -- a datum of the bundle has the name of that of the program
  same_name : (d : ℕ) → d < datum_count p.graph → (datum_at b d).name ≡ datum_name p d
  same_name d inside =
      ap (λ (xs : List RawDatum). (get_or xs d (record { name = []; length = 0 })).name) datums
      ∙ ap (λ (x : RawDatum). x.name) (get_or-map-range_with_len (datum_of p) 0 (datum_count p.graph) d d (record { name = []; length = 0 }) inside (omega arith))

  same_names : (ds : List DatumId) → All (λ d. d.0 < datum_count p.graph) ds → map (λ d. (datum_at b d.0).name) ds ≡ map (datum_name p) (datum_numbers ds)
  same_names [] all = refl
  same_names (d ∷ ds) all = λ i.
      same_name d.0 (All-head (λ (e : DatumId). e.0 < datum_count p.graph) d ds all) i
      ∷ same_names ds (All-tail (λ (e : DatumId). e.0 < datum_count p.graph) d ds all) i

numbered : (p : ProgramParts) (ds : List DatumId) → map (datum_name p) (datum_numbers ds) ≡ map (λ d. datum_name p d.0) ds
numbered p [] = refl
numbered p (d ∷ ds) = ap (λ (names : List Name). datum_name p d.0 ∷ names) (numbered p ds)

names_are : (p : ProgramParts) (b : Parts) → IsBundle b → b.datums ≡ datums_of p → datum_numbers b.prints ≡ datum_numbers p.graph.prints → bundle_names b ≡ printed_names p
names_are p b bundle datums prints =
    let count : datum_count p.graph ≡ length b.datums = sym (ap (λ (xs : List RawDatum). length xs) datums ∙ length-map-range_with_len (datum_of p) 0 (datum_count p.graph)) in
    same_names p b datums b.prints (prints_below b (datum_count p.graph) bundle count)
    ∙ ap (λ (ds : List ℕ). map (datum_name p) ds) prints
    ∙ numbered p p.graph.prints

-- in each order of the tasks, the lines of the bundle are those of the program
pub prints_the_same : (p : ProgramParts) (processors : ℕ) (b : Parts) → IsBundle b → IsCompiled p processors (raw_of b) → MeansTheSame p b → PrintsTheSame p b
prints_the_same p processors b bundle compiled means order ordered = (
  (means.orders 0 order).1 ordered,
  ap (λ (names : List Name). output_lines names (printed b 0 order)) (names_are p b bundle compiled.emission.datums compiled.emission.prints)
      ∙ ap (outputs_text p) (printed_is p b order means compiled.emission.prints),
)

loading : OneAnswerIsTold
loading = one_answer

-- so the run of its text prints what the tasks of the graph text print
pub compiles_safely : (input output : List ℕ) (p : ProgramParts) → StandsFor input p → RunsSafely p output → CompilesSafely input output
compiles_safely input output p stands runs =
    record {
      program = p;
      stands = stands;
      runs = runs;
      prints = prints;
    }
  where
    prints : (text : List ℕ) → IsTextOfLoaded IsRunOutput output text → IsTextFor IsPrinted input text
    prints text run =
        let same : run.loaded ≡ runs.loaded = loading.one_load output run.loaded runs.loaded run.loads runs.loads in
        let told : IsRunOutput runs.loaded text = subst (λ (l : Loads). IsRunOutput l text) same run.text in
        let alike = runs.prints told.order told.ordered in
        record {
          program = p;
          stands = stands;
          text = record {
            order = told.order;
            ordered = alike.0;
            text = told.text ∙ alike.1;
          };
        }
