use Rattle.std.proofs.Common.{◌≡◌, ◌<◌, true, None, length, get_or, sym, ap, ◌∙◌, arith}
use Rattle.std.specs.Prelude.{is_some}
use Rattle.std.proofs.lemmas.List.{get_or_default}
use Rattle.pyr_graphtext.specs.Statements.{is_among, place_of}
use Rattle.pyr_graphtext.proofs.NameLemmas.{place_below}
use Rattle.pyr_simul.proofs.GivenLemmas.{is_repeated}
use Rattle.pyr_simul.proofs.given.Given.give.Goals as goal

pub index-requires : goal.index-requires
index-requires c =
    let known : is_among c.args.self.now.names c.args.name ≡ true = sym c.if-not-contains.ensures in
    omega (arith, place_below c.args.self.now.names c.args.name known, c.place_of-at.ensures.exact, c.requires)

pub returns-then-is_some-clause-fault : goal.returns-then-is_some-clause-fault
returns-then-is_some-clause-fault c =
    let known : is_among c.args.self.now.names c.args.name ≡ true = sym c.if-not-contains.ensures in
    let inside : c.place_of-at.result < length c.args.self.now.numbers.items = omega (arith, place_below c.args.self.now.names c.args.name known, c.place_of-at.ensures.exact, c.requires) in
    let here : c.index.result.now ≡ get_or c.args.self.now.numbers.items (place_of c.args.self.now.names c.args.name) None =
    c.index.ensures ∙ get_or_default c.args.self.now.numbers.items c.place_of-at.result c.index.result.now None inside ∙ ap (λ k. get_or c.args.self.now.numbers.items k None) c.place_of-at.ensures.exact in
    is_repeated c.args.line c.args.which c.args.most c.args.self.now.names _ c.args.name c.args.number (omega arith) known (sym (ap is_some here) ∙ sym c.if-is_some.ensures)

pub index_mut-requires : goal.index_mut-requires
index_mut-requires c =
    let known : is_among c.args.self.now.names c.args.name ≡ true = sym c.if-not-contains.ensures in
    omega (arith, place_below c.args.self.now.names c.args.name known, c.place_of-at.ensures.exact, c.requires)
