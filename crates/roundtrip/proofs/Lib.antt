pub mod Cases
pub mod Rows
pub mod Altered
pub mod Back
pub mod Again
