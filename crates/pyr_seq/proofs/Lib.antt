pub mod WalkLemmas
pub mod SequentialLemmas
mod Rows
