pub mod Read
pub mod Allowed
