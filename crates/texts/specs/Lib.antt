pub mod Line
pub mod Trimmed
pub mod Colon
pub mod Action
pub mod Mark
pub mod Balance
