pub mod Layout
pub mod Marks
