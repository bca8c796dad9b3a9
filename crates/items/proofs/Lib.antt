pub mod Bare
pub mod Symbols
pub mod Marks
pub mod Turns
pub mod Far
pub mod Spares
pub mod Runs
