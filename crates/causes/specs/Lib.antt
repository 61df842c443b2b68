pub mod Causes
pub mod Order
pub mod Call
