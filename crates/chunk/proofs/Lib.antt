pub mod ReadLaws
pub mod RuleLaws
pub mod AnswerLaws
