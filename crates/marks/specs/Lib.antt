pub mod Marks
pub mod Worded
pub mod Appended
