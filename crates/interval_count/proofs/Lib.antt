pub mod Forms
pub mod Meeting
pub mod Counting
pub mod Answers
