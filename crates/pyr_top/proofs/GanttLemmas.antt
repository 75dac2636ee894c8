-- A program has one Gantt report for a number of processors.
use Rattle.std.proofs.Common.{◌≡◌, ℕ, List, sym, ap, ◌∙◌}
use Rattle.pyr_graph.specs.declared.placement.Placement.{Placement}
use Rattle.pyr_graphtext.specs.Program.{ProgramParts}
use Rattle.pyr_gantt.specs.Gantt.{gantt_report}
use Rattle.pyr_compile.proofs.UniqueLemmas.{OnePlan, one_plan_for}
use Rattle.pyr_top.specs.Answers.{IsGanttReport}

pub one_gantt_report : (processors : ℕ) (p : ProgramParts) (a b : List ℕ) → IsGanttReport processors p a → IsGanttReport processors p b → a ≡ b
one_gantt_report processors p a b first second =
    let same : OnePlan first.placement second.placement first.plan second.plan =
    one_plan_for p.graph processors first.clustering second.clustering first.placement second.placement first.plan second.plan first.run second.run first.merged second.merged first.ordered second.ordered
    in
    first.text
    ∙ ap (λ (m : Placement). gantt_report p m first.plan) same.placed
    ∙ ap (gantt_report p second.placement) same.planned
    ∙ sym second.text
