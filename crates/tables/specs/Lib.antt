pub mod Below
pub mod Layout
pub mod Table
pub mod Rows
