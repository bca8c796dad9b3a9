pub mod Singles
pub mod Settings
pub mod Cases
