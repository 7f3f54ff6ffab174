pub mod Options
pub mod PartLaws
pub mod InjectionLaws
pub mod BsigsLaws
pub mod HeadSigLaws
pub mod Answers
