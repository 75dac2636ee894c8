use Rattle.std.proofs.Common.{sym, ap, ◌∙◌, arith}
use Rattle.pyr_body.specs.WrittenSeen.{written_of}
use Rattle.pyr_body.specs.Taking.{after_put}
use Rattle.pyr_body.specs.Fitting.{put_statement}
use Rattle.pyr_body.proofs.TakingLemmas.{put_taken, put_fits}
use Rattle.pyr_body.proofs.reading.Reading.put.Goals as goal

pub written_nodes-requires : goal.written_nodes-requires
written_nodes-requires c = omega (arith, c.requires.nodes)

pub overflow_add-added : goal.overflow_add-added
overflow_add-added c = omega (arith, c.requires.nodes, c.written_nodes.ensures)

pub written_nodes-requires-2 : goal.written_nodes-requires-2
written_nodes-requires-2 c = omega (arith, c.requires.nodes)

pub overflow_add-added-2 : goal.overflow_add-added-2
overflow_add-added-2 c = omega (arith, c.requires.nodes, c.written_nodes.ensures, c.written_nodes-2.ensures)

pub put_statement-requires : goal.put_statement-requires
put_statement-requires c = omega (arith, c.written_nodes.ensures, c.written_nodes-2.ensures)

pub overflow_add-self : goal.overflow_add-self
overflow_add-self c =
    omega (arith, c.written_nodes.ensures, c.written_nodes-2.ensures, put_fits _ _ _ _ c.self.inside.outer c.self.inside.current _ c.self.invariant c.args.name (written_of c.args.index.now) (written_of c.args.value.now) _ (ap (λ s. put_statement s c.args.name (written_of c.args.index.now) (written_of c.args.value.now)) c.self.view_is ∙ c.in_ok-statement.ensures))

pub invariant_of-self : goal.invariant_of-self
invariant_of-self c = (put_taken _ _ _ _ c.self.inside.outer c.self.inside.current _ c.self.invariant c.written_nodes.result c.written_nodes-2.result c.args.name (written_of c.args.index.now) (written_of c.args.value.now) c.in_ok-statement.statement _ c.written_nodes.ensures c.written_nodes-2.ensures (ap (λ s. put_statement s c.args.name (written_of c.args.index.now) (written_of c.args.value.now)) c.self.view_is ∙ c.in_ok-statement.ensures) c.in_ok-push.ensures.ok c.requires.index_depth c.requires.depth).kept

pub returns : goal.returns
returns c =
    ap (λ s. after_put s c.args.name (written_of c.args.index.now) (written_of c.args.value.now)) (sym c.self.view_is)
    ∙ (put_taken _ _ _ _ c.self.inside.outer c.self.inside.current _ c.self.invariant c.written_nodes.result c.written_nodes-2.result c.args.name (written_of c.args.index.now) (written_of c.args.value.now) c.in_ok-statement.statement _ c.written_nodes.ensures c.written_nodes-2.ensures (ap (λ s. put_statement s c.args.name (written_of c.args.index.now) (written_of c.args.value.now)) c.self.view_is ∙ c.in_ok-statement.ensures) c.in_ok-push.ensures.ok c.requires.index_depth c.requires.depth).is
