pub mod Room
pub mod Page
pub mod Printing
pub mod Whole
