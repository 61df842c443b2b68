pub mod Codes
pub mod Copying
pub mod Spelling
pub mod Decoding
