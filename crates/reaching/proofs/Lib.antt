pub mod Feeds
pub mod Course
pub mod Calling
pub mod Finishing
pub mod Reaching
pub mod SideBySide
pub mod Example
