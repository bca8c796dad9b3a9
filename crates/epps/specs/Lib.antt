pub mod Epps
pub mod Given
