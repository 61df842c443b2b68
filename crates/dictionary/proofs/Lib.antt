pub mod Sizes
pub mod Clearing
pub mod Rows
pub mod Finding
pub mod Building
pub mod Filling
