pub mod Sizes
pub mod Parts
pub mod Searching
pub mod Bytes
pub mod Reaching
