pub mod SpanLaws
pub mod NameListLaws
pub mod NameLaws
pub mod Answers
