pub mod Report
pub mod Face
