pub mod Refusals
pub mod Columns
pub mod Steps
