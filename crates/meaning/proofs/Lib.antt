pub mod Regions
pub mod Rows
pub mod Items
pub mod Rules
pub mod Declarations
pub mod Read
