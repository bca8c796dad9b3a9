pub mod Laws
pub mod Far
pub mod Appended
pub mod Worded
