pub mod Calls
pub mod Causes
pub mod Giving
pub mod Memory
pub mod MemoryInside
pub mod Plans
pub mod Taking
