pub mod Agreement
pub mod RoundTrip
pub mod Demand3
