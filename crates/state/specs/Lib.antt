pub mod Configuration
pub mod Run
