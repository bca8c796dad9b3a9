pub mod Ship
pub mod Emit
pub mod Cases
