pub mod Extent
pub mod Reading
