pub mod Trails
pub mod Leading
pub mod Steps
pub mod Bounds
pub mod Alike
pub mod Rows
