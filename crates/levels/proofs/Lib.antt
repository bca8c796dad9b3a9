pub mod Onward
pub mod Laid
pub mod Section
pub mod Read
