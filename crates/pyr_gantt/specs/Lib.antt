pub mod Gantt
pub mod Bars
