pub mod PartLaws
pub mod KeyLaws
