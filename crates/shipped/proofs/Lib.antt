pub mod Rules
pub mod Decls
pub mod Back
pub mod Whole
pub mod Known
pub mod Went
pub mod Reread
