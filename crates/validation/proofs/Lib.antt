pub mod Laws
pub mod Led
pub mod Noted
pub mod Foremost
pub mod Order
pub mod Theorems
pub mod Places
pub mod Cases
