pub mod Samples
pub mod Texts
pub mod Standing
pub mod Turns
pub mod Demand
