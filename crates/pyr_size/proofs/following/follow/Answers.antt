use Rattle.std.proofs.Common.{ℕ, List, ◌+◌, drop, slice_index_or, refl, subst, arith}
use Rattle.pyr_net.specs.Occupancy.{occupancy}
use Rattle.pyr_machine.specs.Machine.{tag_rules, start}
use Rattle.pyr_machine.specs.Station.{world_of}
use Rattle.pyr_size.specs.Followed.{number_of, IsLeft}
use Rattle.pyr_size.proofs.Going.{all_left, has_turn, left_first, none_left, past_end}
use Rattle.pyr_size.proofs.following.follow.Goals as goal

pub loop-p-init : goal.loop-p-init
loop-p-init c = record {
  rules = c.requires.rules;
  size = c.requires.size;
  left = λ complete. all_left c.args.bundle.now c.args.schedule.now (world_of c.args.tags.now.posts) (number_of c.args.lengths.now) c.requires.start c.requires.none complete;
}

pub make_turn-requires-clause-turn : goal.make_turn-requires-clause-turn
make_turn-requires-clause-turn c =
    has_turn c.args.bundle.now c.args.schedule.now c.loop-p.p-index (slice_index_or c.args.schedule.now c.loop-p.p-index 0) (world_of c.loop-p.tags.posts) (number_of c.loop-p.lengths)
    c.loop-p-test.true refl c.requires.complete (c.loop-p.invariant.left c.requires.complete)

pub loop-p-preserved : goal.loop-p-preserved
loop-p-preserved c = record {
  rules = c.make_turn.ensures.rules;
  size = c.make_turn.ensures.size;
  left = λ complete.
      c.make_turn.ensures.made (occupancy (tag_rules c.args.bundle.now) start complete.run) (drop (c.loop-p.p-index + 1) c.args.schedule.now)
      (left_first c.args.bundle.now (occupancy (tag_rules c.args.bundle.now) start complete.run) c.args.schedule.now c.loop-p.p-index (slice_index_or c.args.schedule.now c.loop-p.p-index 0)
      (world_of c.loop-p.tags.posts) (number_of c.loop-p.lengths) c.loop-p-test.true refl (c.loop-p.invariant.left complete));
}

pub returns-clause-occupancy : goal.returns-clause-occupancy
returns-clause-occupancy c = λ complete p q.
    none_left c.args.bundle.now (occupancy (tag_rules c.args.bundle.now) start complete.run) (world_of c.loop-p.tags.posts) (number_of c.loop-p.lengths)
    (subst (λ (s : List ℕ). IsLeft c.args.bundle.now (occupancy (tag_rules c.args.bundle.now) start complete.run) s (world_of c.loop-p.tags.posts) (number_of c.loop-p.lengths))
    (past_end c.args.schedule.now c.loop-p.p-index (let low = c.loop-p.auto.p-index-end in let high = c.loop-p-test.false in omega (arith, low, high)))
    (c.loop-p.invariant.left complete)) p q
