pub mod Laws
pub mod Tells
pub mod RowTests
pub mod Iff
pub mod Indexes
pub mod Known
pub mod Apart
