pub mod Precedences
pub mod Avoided
pub mod Line
pub mod Grown
pub mod Met
