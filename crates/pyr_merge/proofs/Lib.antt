pub mod PartLemmas
pub mod FallingLemmas
pub mod DealLemmas
pub mod MarkLemmas
pub mod RowLemmas
pub mod StepLemmas
pub mod UniqueLemmas
