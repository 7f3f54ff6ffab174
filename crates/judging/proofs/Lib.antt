pub mod AskLaws
pub mod JudgeLaws
