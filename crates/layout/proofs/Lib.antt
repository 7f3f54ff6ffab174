pub mod BodyLaws
pub mod StateLaws
