pub mod Moving
pub mod Asked
