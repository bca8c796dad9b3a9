pub mod Steps
pub mod Refusal
