pub mod Area
pub mod Answers
