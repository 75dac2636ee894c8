-- The text of every bundle is within the limit of an input.
use Rattle.pyr_bundletext.proofs.SizeLemmas.{texts_fit}
use Rattle.pyr_bundletext.proofs.printing.print_bundle.Goals as goal

pub returns-clause-read_again : goal.returns-clause-read_again
returns-clause-read_again c = record {
  written = c.in_ok-put_bundle.ensures.text;
  limits = c.is_bundle.ensures.limits;
  spelled = c.in_ok-put_bundle.ensures.words;
}

pub returns-clause-fits : goal.returns-clause-fits
returns-clause-fits c =
    rw c.in_ok-put_bundle.ensures.text (texts_fit c.args.bundle.now c.is_bundle.ensures c.in_ok-put_bundle.ensures.words)
