pub mod Walk
pub mod Sequence
