use Rattle.std.proofs.Common.{◌∙◌, sym, ap}
use Rattle.std.specs.Prelude.{is_some}
use Rattle.pyr_proc.specs.declared.entry.Entry.{Entry}
use Rattle.pyr_proc.proofs.EntryLemmas.{holds-store, words-store, looked_up, no_held}
use Rattle.pyr_proc.proofs.store.words_of.Goals as goal

pub returns-in_err-entry-clause-there : goal.returns-in_err-entry-clause-there
returns-in_err-entry-clause-there c =
    ap is_some c.from_residual.ensures
    ∙ sym (holds-store c.args.d.0 c.args.entries.now ∙ no_held c.args.entries.now c.args.d.0 (sym c.in_err-entry.ensures))

pub returns-then-entry-clause-there : goal.returns-then-entry-clause-there
returns-then-entry-clause-there c =
    let is = looked_up c.args.entries.now c.args.d.0 c.in_ok-entry.entry.now (sym c.in_ok-entry.ensures) in
    sym (holds-store c.args.d.0 c.args.entries.now ∙ ap (λ (e : Entry). e.held) is ∙ c.if-entry.true)

pub returns-then-entry-clause-words : goal.returns-then-entry-clause-words
returns-then-entry-clause-words c =
    let is = looked_up c.args.entries.now c.args.d.0 c.in_ok-entry.entry.now (sym c.in_ok-entry.ensures) in
    c.as_slice.ensures ∙ sym (words-store c.args.d.0 c.args.entries.now (ap (λ (e : Entry). e.held) is ∙ c.if-entry.true) ∙ ap (λ (e : Entry). e.words) is)

pub returns-else-entry-clause-there : goal.returns-else-entry-clause-there
returns-else-entry-clause-there c =
    let is = looked_up c.args.entries.now c.args.d.0 c.in_ok-entry.entry.now (sym c.in_ok-entry.ensures) in
    sym (holds-store c.args.d.0 c.args.entries.now ∙ ap (λ (e : Entry). e.held) is ∙ c.if-entry.false)
