pub mod Bytes
pub mod Loop
pub mod Runs
pub mod Table
pub mod Tally
pub mod Lines
pub mod Cases
pub mod Tuples
