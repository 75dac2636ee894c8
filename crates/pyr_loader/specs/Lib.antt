pub mod Answer
pub mod Laws
pub mod Leftover
pub mod Safe
pub mod Stops
pub mod Told
pub mod Unreceived
pub mod WorkList
