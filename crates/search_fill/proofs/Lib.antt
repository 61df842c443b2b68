pub mod Parting
pub mod Adding
pub mod Shortening
