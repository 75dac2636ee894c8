mod Events
mod Blocks
mod BlockSizes
mod Before
mod Ready
mod Matched
mod Rooms
mod SameMachine
pub mod PlanLemmas
pub mod UniqueLemmas
mod Resized
