pub mod Ending
pub mod Refusals
pub mod Agreeing
pub mod Calling
pub mod Texting
