pub mod Bursts
pub mod CodeList
pub mod Escapes
pub mod Page
pub mod Sheet
