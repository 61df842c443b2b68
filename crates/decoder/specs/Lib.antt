pub mod Decoding
pub mod Steps
