use Rattle.pyr_body.proofs.LineLemmas.{few_nodes, few_brackets}
use Rattle.pyr_body.proofs.taking.take_form.Goals as goal

pub take_line-requires-clause-nodes : goal.take_line-requires-clause-nodes
take_line-requires-clause-nodes c =
    few_nodes c.new-cursor.result c.args.tokens.now c.in_ok-line.line _ c.in_ok-line.ensures c.new-cursor.ensures c.requires.length

pub take_line-requires-clause-depth : goal.take_line-requires-clause-depth
take_line-requires-clause-depth c =
    few_brackets c.new-cursor.result c.args.tokens.now c.in_ok-line.line c.in_ok-line.ensures c.new-cursor.ensures c.requires.depth
