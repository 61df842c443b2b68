pub mod Encoders
pub mod Entries
