pub mod Counter
pub mod Fronts
pub mod Lines
pub mod Runs
pub mod Steps
pub mod Written
pub mod WritingLemmas
