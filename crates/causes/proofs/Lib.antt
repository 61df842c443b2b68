pub mod Calls
pub mod None
pub mod Orders
pub mod Unknown
