pub mod ChoiceLemmas
pub mod ProgressLemmas
pub mod HeadLemmas
pub mod FreeLemmas
pub mod RunLemmas
pub mod PartitionLemmas
pub mod UniqueLemmas
mod HeldLemmas
mod GreatestLemmas
mod ClosedLemmas
mod TimeLemmas
mod ExitLemmas
mod QueueLemmas
mod QueueStepLemmas
mod ListsLemmas
mod TrueLemmas
mod TableLemmas
mod KeptLemmas
mod PlaceLemmas
