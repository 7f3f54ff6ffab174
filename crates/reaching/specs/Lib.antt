pub mod Caller
pub mod Driver
pub mod Arrival
pub mod Outcome
