pub mod Laws
pub mod Far
pub mod Spares
