pub mod ListLaws
pub mod FaultLaws
pub mod AskLaws
pub mod JudgeLaws
pub mod QuestionKept
