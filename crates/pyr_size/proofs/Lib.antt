pub mod Executed
pub mod Going
pub mod Sent
pub mod Sized
pub mod Turn
pub mod Turns
