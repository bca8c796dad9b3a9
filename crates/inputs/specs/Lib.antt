pub mod Reads
pub mod Loads
pub mod Blocks
