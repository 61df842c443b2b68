pub mod Prefixes
pub mod Trying
pub mod Marking
pub mod Filling
