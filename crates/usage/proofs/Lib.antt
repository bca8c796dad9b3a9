pub mod Excuses
pub mod Guided
pub mod Picked
pub mod Passes
pub mod Outcome
pub mod Standing
