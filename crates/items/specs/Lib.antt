pub mod Items
pub mod Draft
pub mod Quick
