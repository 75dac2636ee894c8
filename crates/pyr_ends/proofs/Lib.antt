pub mod Peers
pub mod Grid
pub mod RowLemmas
