pub mod Generated
pub mod Agreement
pub mod Laws
