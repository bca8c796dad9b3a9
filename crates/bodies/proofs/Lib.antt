pub mod Laws
pub mod Exact
pub mod Far
pub mod Meaning
