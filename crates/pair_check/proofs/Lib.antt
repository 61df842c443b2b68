pub mod Keys
pub mod Listing
pub mod Joins
pub mod Seams
pub mod Turns
