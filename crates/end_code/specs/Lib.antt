pub mod Tables
pub mod Sides
pub mod Joins
pub mod Codes
