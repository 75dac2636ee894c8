use Rattle.std.proofs.Common.{◌*◌, ◌∙◌, arith}
use Rattle.pyr_machine.specs.Machine.{tag_rules}
use Rattle.pyr_machine.specs.Counts.{steps_left}
use Rattle.pyr_machine.specs.Station.{world_of}
use Rattle.pyr_loader.proofs.WorkLemmas.{turn_over, actors_left, not_enabled, gone_on, less_left, less_waiting, none_waiting, nothing_left, few_reached}
use Rattle.pyr_loader.proofs.work_list.run_out.Goals as goal

pub turns-preserved-then-not-enabled : goal.turns-preserved-then-not-enabled
turns-preserved-then-not-enabled c =
    let i = c.turns.invariant in
    let w = world_of c.turns.tags.posts in
    let b = c.args.bundle.now in
    record {
      rules = i.rules;
      reached = i.reached;
      listed = turn_over (tag_rules b) w c.in-Some.p c.turns.waiting.items c.pop.new.self.items c.in-Some.ensures.items
          (not_enabled (tag_rules b) (tag_rules c.turns.tags.bundle) w c.in-Some.p c.enabled.result i.rules c.enabled.ensures c.if-not-enabled.true) i.listed;
      actors = actors_left b c.in-Some.p c.turns.waiting.items c.pop.new.self.items c.in-Some.ensures.items i.actors;
    }

pub turns-smaller-then-not-enabled : goal.turns-smaller-then-not-enabled
turns-smaller-then-not-enabled c =
    less_waiting (3 * steps_left c.args.bundle.now (world_of c.turns.tags.posts)) c.in-Some.p c.turns.waiting.items c.pop.new.self.items c.in-Some.ensures.items

pub overflow_add-steps : goal.overflow_add-steps
overflow_add-steps c =
    let l = few_reached c.args.bundle.now (world_of c.args.tags.now.posts) (world_of c.turns.tags.posts) c.turns.steps c.well_formed-2.ensures c.requires.start c.turns.invariant.reached in
    omega (arith, l)

pub turns-smaller : goal.turns-smaller
turns-smaller c =
    less_left c.args.bundle.now c.turns.tags.bundle (world_of c.turns.tags.posts) (world_of c.go_on.new.tags.posts) c.in-Some.p c.turns.waiting.items c.pop.new.self.items c.go_on.new.waiting.items
    c.well_formed-2.ensures c.turns.invariant.rules c.in-Some.ensures.items (c.enabled.ensures.0 c.if-not-enabled.false) c.go_on.ensures.step c.in_ok-go_on.ensures.waiting

pub turns-preserved : goal.turns-preserved
turns-preserved c =
    let i = c.turns.invariant in
    let g = gone_on c.args.bundle.now c.turns.tags.bundle (world_of c.args.tags.now.posts) (world_of c.turns.tags.posts) (world_of c.go_on.new.tags.posts) c.turns.steps c.in-Some.p c.turns.waiting.items c.pop.new.self.items c.go_on.new.waiting.items
    c.well_formed-2.ensures i.rules i.reached i.listed i.actors c.in-Some.ensures.items (c.enabled.ensures.0 c.if-not-enabled.false) c.go_on.ensures.step c.in_ok-go_on.ensures.waiting in
    record { rules = c.go_on.ensures.fixed ∙ i.rules; reached = g.reached; listed = g.listed; actors = g.actors }

pub returns-clause-outcome : goal.returns-clause-outcome
returns-clause-outcome c =
    let i = c.turns.invariant in
    none_waiting c.args.bundle.now (world_of c.args.tags.now.posts) (world_of c.turns.tags.posts) c.turns.steps c.turns.waiting.items (nothing_left _ c.turns.waiting.items c.pop.new.self.items c.in_default.ensures.cases.0 c.in_default.ensures.items c.in_default.ensures.rest) c.requires.start i.reached i.listed

pub go_on-requires : goal.go_on-requires
go_on-requires c = c.enabled.ensures.0 c.if-not-enabled.false
