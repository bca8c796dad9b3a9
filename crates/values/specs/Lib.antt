pub mod Value
pub mod Allowed
