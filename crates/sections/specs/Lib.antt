pub mod Reading
pub mod Calls
pub mod Machine
pub mod Resuming
pub mod Leaving
