pub mod BufferLaws
pub mod KeptLaws
