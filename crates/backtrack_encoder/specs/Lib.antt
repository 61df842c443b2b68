pub mod Encoder
pub mod Steps
pub mod Answers
