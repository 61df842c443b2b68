-- Laws that belong to no one function.
pub mod Sweeps
pub mod Entries
pub mod Matching
pub mod Facts
pub mod Placing
pub mod Readiness
pub mod Forming
pub mod Calls
