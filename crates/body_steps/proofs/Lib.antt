pub mod KeptBody
pub mod RunLaws
pub mod SkipLaws
