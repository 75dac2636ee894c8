pub mod Team
pub mod Homes
pub mod Workers
