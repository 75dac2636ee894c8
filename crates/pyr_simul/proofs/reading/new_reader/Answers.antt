use Rattle.std.proofs.Common.{◌∙◌, ap, length, replicate, None, List}
use Rattle.pyr_num.specs.declared.name.Name.{Name}
use Rattle.pyr_simul.proofs.ReaderLemmas.{HasTaken-none}
use Rattle.pyr_simul.proofs.reading.new_reader.Goals as goal

pub returns : goal.returns
returns c = HasTaken-none c.args.program.now _
    (c.in_ok-times.ensures.names ∙ c.in_ok-tasks.ensures) (c.in_ok-times.ensures.numbers ∙ ap (λ (ns : List Name). replicate (length ns) None) c.in_ok-tasks.ensures)
    (c.in_ok-delays.ensures.names ∙ c.in_ok-datums.ensures) (c.in_ok-delays.ensures.numbers ∙ ap (λ (ns : List Name). replicate (length ns) None) c.in_ok-datums.ensures)
