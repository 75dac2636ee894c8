pub mod Blocks
pub mod Followed
pub mod Sizes
