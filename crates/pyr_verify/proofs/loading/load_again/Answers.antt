use Rattle.std.proofs.Common.{ap}
use Rattle.pyr_machine.specs.Good.{Loads}
use Rattle.pyr_verify.proofs.LoadLemmas.{same_load, memory_alone}
use Rattle.pyr_verify.proofs.loading.load_again.Goals as goal

pub want_of_memory-requires : goal.want_of_memory-requires
want_of_memory-requires c =
    memory_alone c.deref.result.now c.in_ok-text.text.items c.args.bundle.now c.in-Err.fault c.deref.ensures.value c.is_bundle.ensures c.requires
    c.in_ok-text.ensures.read_again c.in-Err.ensures.refused

pub returns-in-Ok-clause-bundle : goal.returns-in-Ok-clause-bundle
returns-in-Ok-clause-bundle c =
    ap (λ (l : Loads). l.bundle)
    (same_load c.deref.result.now c.in_ok-text.text.items c.args.bundle.now c.in-Ok.loaded c.deref.ensures.value c.is_bundle.ensures c.requires c.in_ok-text.ensures.read_again c.in-Ok.ensures.loaded)

pub returns-in-Ok-clause-steps : goal.returns-in-Ok-clause-steps
returns-in-Ok-clause-steps c =
    ap (λ (l : Loads). l.steps)
    (same_load c.deref.result.now c.in_ok-text.text.items c.args.bundle.now c.in-Ok.loaded c.deref.ensures.value c.is_bundle.ensures c.requires c.in_ok-text.ensures.read_again c.in-Ok.ensures.loaded)
