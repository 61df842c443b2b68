pub mod Refusals
pub mod Checked
pub mod Sending
pub mod Counting
pub mod Pair
