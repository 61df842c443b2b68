pub mod Records
pub mod Steps
pub mod Calls
pub mod Text
