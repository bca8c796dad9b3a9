pub mod Laws
pub mod Laid
pub mod Symbols
pub mod Productions
pub mod All
pub mod Endings
