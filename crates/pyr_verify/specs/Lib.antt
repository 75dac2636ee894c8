pub mod Summary
pub mod LoadedPlan
