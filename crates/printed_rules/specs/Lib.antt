pub mod Items
pub mod Rules
