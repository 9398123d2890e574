pub mod Costs
pub mod Moves
pub mod Computed
pub mod Priced
pub mod Laws
