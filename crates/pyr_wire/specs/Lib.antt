pub mod End
pub mod InOrder
pub mod Laws
