pub mod Words
pub mod Tags
pub mod Numbers
pub mod Strings
pub mod Meaning
pub mod Feeds
pub mod Cases
