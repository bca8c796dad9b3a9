pub mod Content
pub mod Altered
pub mod Whole
pub mod Laws
pub mod Stored
