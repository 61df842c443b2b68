pub mod Counts
pub mod Rising
pub mod Keeping
pub mod Trying
pub mod Placing
pub mod Writing
pub mod Reading
pub mod Longest
