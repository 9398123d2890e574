pub mod Page
pub mod Room
pub mod Offers
pub mod Whole
