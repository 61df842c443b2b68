pub mod Refusals
pub mod Checking
pub mod Sending
pub mod Counting
pub mod Promises
pub mod PairAnswers
