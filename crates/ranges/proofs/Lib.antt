pub mod Extents
pub mod NumberLaws
pub mod ReadLaws
pub mod Answers
