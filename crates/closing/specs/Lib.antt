pub mod Rebuilt
pub mod Closing
pub mod Complete
