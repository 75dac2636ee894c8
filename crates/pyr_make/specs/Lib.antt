pub mod Layered
