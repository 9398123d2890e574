pub mod Ways
pub mod Arrivals
pub mod Rows
pub mod Table
pub mod Search
pub mod Computed
pub mod Inner
pub mod Laws
