pub mod PlaceLaws
pub mod WritingLaws
