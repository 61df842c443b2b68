pub mod Encoding
pub mod Live
pub mod Queues
pub mod Pushing
pub mod Steps
