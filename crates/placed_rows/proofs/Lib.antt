pub mod Beginning
pub mod Chains
pub mod Facing
pub mod Placing
