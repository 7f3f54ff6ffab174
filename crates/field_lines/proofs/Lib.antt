pub mod AnswerLaws
pub mod FieldLineLaws
pub mod StatusLaws
pub mod PlacedLaws
pub mod SearchLaws
