use Rattle.std.proofs.Common.{List, length, ap, ◌∙◌, arith}
use Rattle.pyr_num.specs.declared.ids.DatumId.{DatumId}
use Rattle.pyr_bundle.specs.Parts.{Parts}
use Rattle.pyr_team.proofs.PrintLemmas.{known_at, copied_all}
use Rattle.pyr_team.proofs.printing.copy_prints.Goals as goal

pub bounds-homes-d : goal.bounds-homes-d
bounds-homes-d c =
    let k = known_at c.args.loaded.now.bundle c.prints-prints.result.now c.loop-i.i c.is_good.ensures.bundle (c.prints-prints.ensures ∙ ap (λ (b : Parts). b.prints) c.bundle.ensures) c.loop-i-test.true in
    let n = c.requires.homes.count in
    omega arith

pub words_at-requires-clause-known : goal.words_at-requires-clause-known
words_at-requires-clause-known c =
    known_at c.args.loaded.now.bundle c.prints-prints.result.now c.loop-i.i c.is_good.ensures.bundle (c.prints-prints.ensures ∙ ap (λ (b : Parts). b.prints) c.bundle.ensures) c.loop-i-test.true

pub words_at-requires-clause-home : goal.words_at-requires-clause-home
words_at-requires-clause-home c =
    c.requires.homes.each _
    (known_at c.args.loaded.now.bundle c.prints-prints.result.now c.loop-i.i c.is_good.ensures.bundle (c.prints-prints.ensures ∙ ap (λ (b : Parts). b.prints) c.bundle.ensures) c.loop-i-test.true)

pub returns : goal.returns
returns c =
    copied_all c.args.loaded.now.bundle c.loop-i.i c.loop-i.lists
    (let e = ap (λ (ds : List DatumId). length ds) (c.prints-prints.ensures ∙ ap (λ (b : Parts). b.prints) c.bundle.ensures) in let n = c.loop-i-test.false in omega arith) c.loop-i.invariant
