pub mod Finishing
pub mod Reach
pub mod Forms
pub mod Every
pub mod Joined
pub mod Longest
pub mod Parts
