pub mod LastCodes
pub mod Walk
