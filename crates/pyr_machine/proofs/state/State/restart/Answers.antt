use Rattle.std.proofs.Common.{◌≡◌, List, map, sym, ◌∙◌, ap, subst, rules}
use Rattle.std.specs.Vec.{with_items}
use Rattle.std.proofs.lemmas.List.{with_items_is, places}
use Rattle.pyr_bundle.specs.Parts.{processor_count}
use Rattle.pyr_machine.specs.Station.{Post, restarted, AreFresh}
use Rattle.pyr_machine.proofs.Stated.{fresh_stated, fresh_words}
use Rattle.pyr_machine.proofs.Restart.{restarted_fresh}
use Rattle.pyr_machine.proofs.state.State.restart.Goals as goal

pub invariant_of-self : goal.invariant_of-self
invariant_of-self c =
    let s = c.self.inside in
    let b = s.bundle.now in
    let kept = c.self.invariant.0 in
    let stations : (with_items s.stations c.restart_all.new.stations).items ≡ c.restart_all.new.stations =
    with_items_is s.stations c.restart_all.new.stations (search (rules, places)) in
    let fresh = subst (AreFresh b (processor_count b))
    (sym (stations ∙ c.restart_all.ensures ∙ ap (λ (xs : List Post). map restarted xs) c.deref_mut.ensures.value))
    (restarted_fresh b s.stations.items kept.posted) in (
      fresh_stated b (with_items s.stations c.restart_all.new.stations).items s.table.items kept.is_bundle fresh kept.lengths,
      c.self.invariant.1,
    )

pub returns-clause-start : goal.returns-clause-start
returns-clause-start c =
    let s = c.self.inside in
    let b = s.bundle.now in
    let kept = c.self.invariant.0 in
    let stations : (with_items s.stations c.restart_all.new.stations).items ≡ c.restart_all.new.stations =
    with_items_is s.stations c.restart_all.new.stations (search (rules, places)) in
    let fresh = subst (AreFresh b (processor_count b))
    (sym (stations ∙ c.restart_all.ensures ∙ ap (λ (xs : List Post). map restarted xs) c.deref_mut.ensures.value))
    (restarted_fresh b s.stations.items kept.posted) in
    fresh_words b (with_items s.stations c.restart_all.new.stations).items s.table.items fresh
