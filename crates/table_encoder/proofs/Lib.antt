pub mod Filling
pub mod Walking
pub mod Codes
