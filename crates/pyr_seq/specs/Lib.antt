pub mod Walk
pub mod Sequential
pub mod Laws
