pub mod Form
pub mod Checks
pub mod Post
pub mod Walk
