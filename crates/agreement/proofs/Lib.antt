pub mod Agreeing
pub mod RoundTrip
pub mod Demand3
pub mod Together
