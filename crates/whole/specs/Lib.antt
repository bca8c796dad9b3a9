pub mod Whole
pub mod Encode
