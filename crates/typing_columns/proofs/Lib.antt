pub mod Mirror
pub mod Rows
pub mod Ending
pub mod Following
pub mod Recording
pub mod Coding
pub mod Pushing
pub mod Answers
