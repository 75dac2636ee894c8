pub mod Alone
pub mod Handover
pub mod Laws
pub mod Net
pub mod Occupancy
pub mod Pipeline
pub mod Run
