pub mod Laws
pub mod Far
pub mod Levels
pub mod Counts
pub mod Givens
pub mod Spares
pub mod Posix
