pub mod Counting
pub mod Counts
