pub mod Entries
pub mod Placed
pub mod Reading
