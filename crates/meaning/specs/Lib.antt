pub mod Regions
pub mod Made
pub mod Left
