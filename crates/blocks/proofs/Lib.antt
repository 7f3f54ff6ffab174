pub mod ChainLaws
pub mod MessageLaws
