-- The tasks of a bundle have one writer for each datum, and make lists of the lengths of the data.
use Rattle.std.proofs.Common.{◌≡◌, ℕ, List, [], ◌∷◌, map, length, refl, ap, ◌∙◌}
use Rattle.std.proofs.lemmas.List.{length-replicate}
use Rattle.pyr_code.specs.Seen.{code_of}
use Rattle.pyr_code.proofs.Lengths.{lengths-outputs_of}
use Rattle.pyr_seq.specs.Sequential.{HasOneWriter}
use Rattle.pyr_seq.specs.Laws.{MakesLengths}
use Rattle.pyr_bundle.specs.Parts.{Parts, IsBundle, task_at, length_of}
use Rattle.pyr_bundle.specs.WellFormed.{writes_of}
use Rattle.pyr_bundle.specs.Values.{zeros, tasks_of}
use Rattle.pyr_bundle.proofs.WellFormedLemmas.{well_formed}

pub has_one_writer : (b : Parts) (frame : ℕ) → IsBundle b → HasOneWriter (tasks_of b frame)
has_one_writer b frame is = λ t u d l m h k. (well_formed b is).one_writer t u d l m h k

lengths-zeros : (b : Parts) (ds : List ℕ) → map length (zeros b ds) ≡ map (length_of b) ds
lengths-zeros b [] = refl
lengths-zeros b (d ∷ ds) =
    ap (λ n. n ∷ map length (zeros b ds)) (length-replicate (length_of b d) 0) ∙ ap (λ ns. length_of b d ∷ ns) (lengths-zeros b ds)

pub makes_lengths : (b : Parts) (frame : ℕ) → MakesLengths (tasks_of b frame) (length_of b)
makes_lengths b frame = λ t inputs l.
    lengths-outputs_of frame inputs (code_of (task_at b t).code.ops) (task_at b t).code.shape.locals (zeros b (writes_of b t)) ∙ lengths-zeros b (writes_of b t)
