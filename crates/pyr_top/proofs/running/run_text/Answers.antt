use Rattle.pyr_top.proofs.LoadLemmas.{run_output, runs_as_told}
use Rattle.pyr_top.proofs.running.run_text.Goals as goal

pub returns-clause-ok : goal.returns-clause-ok
returns-clause-ok g c =
    record {
      loaded = c.in_ok-loaded.loaded;
      loads = c.in_ok-loaded.ensures.loaded;
      text = run_output c.in_ok-loaded.loaded c.in_ok-text.field-0.items c.in_ok-loaded.ensures.safe c.in_ok-text.ensures;
    }

pub returns-clause-safe : goal.returns-clause-safe
returns-clause-safe g c =
    runs_as_told c.args.input.now c.in_ok-text.field-0.items c.in_ok-loaded.loaded c.in_ok-loaded.ensures.loaded c.in_ok-loaded.ensures.safe c.in_ok-text.ensures
