pub mod Crossings
pub mod Moves
pub mod Steps
