pub mod Staying
pub mod Many
pub mod Ahead
pub mod Limiting
