pub mod Month
pub mod Inner
pub mod Laws
pub mod Examples
