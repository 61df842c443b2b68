pub mod Measured
pub mod Core
