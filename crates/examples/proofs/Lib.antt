pub mod Example
pub mod RepeatedExample
pub mod AskedExample
pub mod ClaimedExample
pub mod PartExample
