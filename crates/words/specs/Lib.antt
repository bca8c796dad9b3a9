pub mod Words
pub mod Tags
pub mod Numbers
pub mod Strings
