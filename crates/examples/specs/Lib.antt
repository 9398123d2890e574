pub mod Sheets
pub mod Marked
pub mod Calls
pub mod Longest
