pub mod Scan
pub mod Tally
pub mod Lines
pub mod Loop
pub mod Table
