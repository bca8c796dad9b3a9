pub mod Laws
pub mod Heads
pub mod Room
pub mod Contents
