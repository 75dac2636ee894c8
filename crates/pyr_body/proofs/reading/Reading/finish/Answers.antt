use Rattle.std.proofs.Common.{refl, subst, Err}
use Rattle.pyr_body.specs.Reader.{IsEnd}
use Rattle.pyr_body.proofs.FinishLemmas.{open_end, few_nodes, much_end, is_body, body_end, ends_so}
use Rattle.pyr_body.proofs.reading.Reading.finish.Goals as goal

pub returns-then-not-is_empty : goal.returns-then-not-is_empty
returns-then-not-is_empty c =
    subst (λ t. IsEnd t (Err _)) c.self.view_is (open_end _ _ _ _ c.self.inside.outer c.self.inside.current _ c.self.invariant (λ e. absurd (let h = c.if-not-is_empty.ensures.1 e in cc)))

pub capped_work-requires : goal.capped_work-requires
capped_work-requires c =
    few_nodes _ _ _ _ c.self.inside.outer c.self.inside.current _ c.self.invariant (c.if-not-is_empty.ensures.0 refl) _ c.as_slice.ensures

pub returns-then-capped_work-gt-WORK : goal.returns-then-capped_work-gt-WORK
returns-then-capped_work-gt-WORK c =
    subst (λ t. IsEnd t (Err _)) c.self.view_is (much_end _ _ _ _ c.self.inside.outer c.self.inside.current _ c.self.invariant (c.if-not-is_empty.ensures.0 refl) c.as_slice.result.now c.as_slice.ensures _ c.capped_work.ensures c.if-capped_work-gt-WORK.true)

pub from_items-requires : goal.from_items-requires
from_items-requires c =
    is_body _ _ _ _ c.self.inside.outer c.self.inside.current _ c.self.invariant (c.if-not-is_empty.ensures.0 refl) c.as_slice.result.now c.as_slice.ensures _ c.capped_work.ensures c.if-capped_work-gt-WORK.false _ _ c.len.ensures refl

pub returns : goal.returns
returns c =
    ends_so _ _ _ _ c.self.view_is c.from_items.ensures (body_end _ _ _ _ c.self.inside.outer c.self.inside.current _ c.self.invariant (c.if-not-is_empty.ensures.0 refl) c.as_slice.result.now c.as_slice.ensures _ c.capped_work.ensures c.if-capped_work-gt-WORK.false _ _ c.len.ensures refl)
