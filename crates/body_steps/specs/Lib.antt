pub mod Data
pub mod Skip
