pub mod Intervals
pub mod Computed
pub mod FirstSteps
pub mod Sets
pub mod Inner
pub mod Laws
