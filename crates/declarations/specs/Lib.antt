pub mod Declarations
pub mod Posix
pub mod Cases
pub mod Levels
