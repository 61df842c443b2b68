pub mod Parents
pub mod Sizing
pub mod Placing
pub mod Preparing
pub mod Answers
