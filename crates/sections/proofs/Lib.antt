pub mod Laws
pub mod Spares
pub mod Lengths
pub mod Far
