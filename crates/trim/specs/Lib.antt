pub mod Trim
pub mod Trims
pub mod Cases
