pub mod Search
pub mod Without
pub mod Words
pub mod Sets
pub mod Passing
