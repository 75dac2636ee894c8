use Rattle.std.proofs.Common.{refl, ap, ◌∙◌}
use Rattle.pyr_verify.specs.Summary.{message_count}
use Rattle.pyr_verify.proofs.SummaryLemmas.{is_summary, is_verified}
use Rattle.pyr_verify.proofs.verifying.summary_of.Goals as goal

pub returns-clause-summary : goal.returns-clause-summary
returns-clause-summary c =
    is_summary c.args.tasks c.args.processors c.args.found.now c.requires
    (record { tasks = c.args.tasks; processors = c.args.processors; messages = c.message_count.result; steps = c.steps.result; time = c.args.found.now.time; sum = c.in_ok-sum.sum })
    refl refl (c.message_count.ensures ∙ ap message_count c.bundle.ensures) c.steps.ensures refl c.in_ok-sum.ensures

pub returns-clause-verified : goal.returns-clause-verified
returns-clause-verified c =
    is_verified c.args.tasks c.args.processors c.args.found.now c.requires
    (record { tasks = c.args.tasks; processors = c.args.processors; messages = c.message_count.result; steps = c.steps.result; time = c.args.found.now.time; sum = c.in_ok-sum.sum })
    c.steps.ensures
