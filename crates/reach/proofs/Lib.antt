pub mod Laws
pub mod Chains
pub mod Sweeps
pub mod Works
pub mod Fair
