pub mod Calm
pub mod Capacities
pub mod Course
pub mod Passages
pub mod Seats
pub mod Tracked
pub mod Viewers
