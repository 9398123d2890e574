pub mod Free
pub mod Runs
pub mod Horizon
pub mod Sets
