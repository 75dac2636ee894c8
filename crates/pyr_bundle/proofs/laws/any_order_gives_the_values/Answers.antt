use Rattle.pyr_bundle.specs.Values.{tasks_of}
use Rattle.pyr_bundle.proofs.ValueLemmas.{has_one_writer}
use Rattle.pyr_bundle.proofs.laws.any_order_gives_the_values.Goals as goal

pub returns : goal.returns
returns c = λ b frame order other is h k.
    c.any_order_gives_the_values.ensures (tasks_of b frame) order other (has_one_writer b frame is) h k
