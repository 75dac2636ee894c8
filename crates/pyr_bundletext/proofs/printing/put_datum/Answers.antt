use Rattle.std.proofs.Common.{ℕ, List, ◌++◌, ap, ◌∙◌}
use Rattle.pyr_bundletext.proofs.PrintingLemmas.{datum_written}
use Rattle.pyr_bundletext.proofs.printing.put_datum.Goals as goal

pub returns-clause-text : goal.returns-clause-text
returns-clause-text c =
    datum_written c.args.datum c.from.result c.args.text.now.items _ _ _ _ c.from.ensures c.in_ok-extend_from_slice.ensures.items
    (c.in_ok-extend_from_slice-2.ensures.items ∙ ap (λ (name : List ℕ). c.extend_from_slice.new.self.items ++ name) c.bytes.ensures.same) c.in_ok-put_number.ensures c.in_ok-push.ensures.items
