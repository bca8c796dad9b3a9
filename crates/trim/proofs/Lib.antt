pub mod Laws
pub mod Inside
pub mod Theorem
pub mod Unique
