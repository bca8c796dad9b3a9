pub mod Keywords
pub mod Cases
