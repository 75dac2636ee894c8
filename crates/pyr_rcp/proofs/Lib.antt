pub mod ReadyLemmas
pub mod StartLemmas
pub mod StepLemmas
pub mod MappedLemmas
pub mod PlanLemmas
pub mod UniqueLemmas
mod ComingLemmas
mod QueueLemmas
mod TimetableLemmas
mod WaitLemmas
mod OfferLemmas
mod NextLemmas
mod ReleaseLemmas
mod BestLemmas
