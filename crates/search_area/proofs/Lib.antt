pub mod RowsPart
pub mod Looking
pub mod Stepping
