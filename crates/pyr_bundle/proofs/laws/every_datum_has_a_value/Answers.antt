use Rattle.pyr_bundle.specs.Parts.{length_of}
use Rattle.pyr_bundle.specs.Values.{tasks_of}
use Rattle.pyr_bundle.proofs.WellFormedLemmas.{well_formed}
use Rattle.pyr_bundle.proofs.ValueLemmas.{has_one_writer, makes_lengths}
use Rattle.pyr_bundle.proofs.laws.every_datum_has_a_value.Goals as goal

pub returns : goal.returns
returns c = λ b frame order is h d l.
    let w = (well_formed b is).some_writer d l in
    c.values_have_lengths.ensures (tasks_of b frame) (length_of b) order (has_one_writer b frame is) h (makes_lengths b frame) w.0 d w.1 w.2
