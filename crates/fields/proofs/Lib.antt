pub mod TableLaws
pub mod ReadLaws
pub mod FillLaws
pub mod LinesLaws
