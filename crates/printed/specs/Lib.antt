pub mod Print
pub mod Stands
pub mod Ships
pub mod Decls
pub mod Cases
