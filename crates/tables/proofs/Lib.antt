pub mod Below
pub mod Tells
pub mod Laws
pub mod Rows
pub mod Ends
pub mod Cases
