pub mod Owned
pub mod Laws
pub mod Once
pub mod Theorems
