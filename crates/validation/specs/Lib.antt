pub mod Faults
pub mod Walk
pub mod Places
