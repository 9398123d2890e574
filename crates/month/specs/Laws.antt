pub mod Mean
pub mod Figures
pub mod Page
pub mod Cut
pub mod Served
