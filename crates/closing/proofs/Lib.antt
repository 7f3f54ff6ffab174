pub mod Lines
pub mod Parts
pub mod Rebuilding
pub mod Closing
pub mod Runs
pub mod Complete
