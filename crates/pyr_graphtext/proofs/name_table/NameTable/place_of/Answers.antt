use Rattle.std.proofs.Common.{◌≡◌, ℕ, List, Option, length, ap, ◌∙◌}
use Rattle.std.specs.Prelude.{bytes_eq, unwrap_or, position}
use Rattle.pyr_graphtext.specs.Statements.{place_of}
use Rattle.pyr_graphtext.proofs.Places.{place_is}
use Rattle.pyr_graphtext.proofs.name_table.NameTable.place_of.Goals as goal

pub returns-clause-exact : goal.returns-clause-exact
returns-clause-exact c =
    let keys = c.self.inside.names.keys in
    let name = c.args.name in
    let found : c.unwrap_or.result ≡ unwrap_or (position (bytes_eq name) keys) (length keys) =
    c.unwrap_or.ensures ∙ ap (λ (o : Option ℕ). unwrap_or o c.len.result) c.get_index_of.ensures.index ∙ ap (λ (n : ℕ). unwrap_or (position (bytes_eq name) keys) n) c.len.ensures.len in
    found ∙ place_is (bytes_eq name) keys ∙ ap (λ (ks : List (List ℕ)). place_of ks name) c.self.view_is
