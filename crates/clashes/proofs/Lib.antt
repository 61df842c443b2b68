pub mod Lowest
pub mod Laws
pub mod Chains
pub mod Indexed
pub mod Samples
