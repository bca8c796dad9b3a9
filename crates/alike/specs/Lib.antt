pub mod Like
pub mod Stands
