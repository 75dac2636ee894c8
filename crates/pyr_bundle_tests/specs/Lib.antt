pub mod Parcels
pub mod Seats
