pub mod SeatLemmas
pub mod JoinLemmas
pub mod HomeLemmas
pub mod PrintLemmas
