use Rattle.std.proofs.Common.{◌≡◌, false, List, length, map, replicate, ◌∙◌, ap, rules}
use Rattle.std.specs.Vec.{vec_len, with_items}
use Rattle.std.proofs.lemmas.List.{with_items_is, places}
use Rattle.pyr_machine.specs.Station.{Lane, emptied}
use Rattle.pyr_machine.proofs.Restart.{restarted_post}
use Rattle.pyr_machine.proofs.station.Station.restart.Goals as goal

pub returns : goal.returns
returns c =
    let s = c.self.inside in
    let channels : (with_items s.outgoing c.clear_all.new.channels).items ≡ c.clear_all.new.channels =
    with_items_is s.outgoing c.clear_all.new.channels (search (rules, places)) in
    let count : vec_len s.held ≡ length s.held.items = search (rules, places) in
    rw (← c.self.view_is)
    (restarted_post s.held.items c.fill.new.self.items c.clear.new.self.items s.outgoing.items
    (with_items s.outgoing c.clear_all.new.channels).items s.place s.room s.stash.items
    (c.fill.ensures.items (λ y e. e) ∙ ap (λ n. replicate n false) count) c.clear.ensures.items
    (channels ∙ c.clear_all.ensures ∙ ap (λ (xs : List Lane). map emptied xs) c.deref_mut.ensures.value))
