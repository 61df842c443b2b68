pub mod Meanings
pub mod Sheets
