pub mod Words
pub mod Lookups
pub mod Growth
