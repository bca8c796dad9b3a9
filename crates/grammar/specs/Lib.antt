pub mod Refusals
pub mod Numbers
pub mod State
pub mod Sound
pub mod Cells
pub mod Places
