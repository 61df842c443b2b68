pub mod Tables
pub mod InForm
pub mod Formed
pub mod Ready
pub mod Steps
pub mod Answers
