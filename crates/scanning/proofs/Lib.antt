pub mod StepLaws
pub mod LoopLaws
pub mod AnswerLaws
