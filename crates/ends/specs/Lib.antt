pub mod Judgement
pub mod Steps
