pub mod Book
pub mod Run
