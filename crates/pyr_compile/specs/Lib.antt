pub mod Compiled
pub mod PlanRun
