pub mod Leading
pub mod Alike
pub mod Meaning
pub mod Ending
pub mod Steps
pub mod Arrays
