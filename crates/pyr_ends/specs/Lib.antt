pub mod Ends
pub mod Wired
