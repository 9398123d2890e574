pub mod Holding
pub mod Taking
pub mod Reading
pub mod Printing
pub mod Mean
pub mod Served
pub mod Examples
