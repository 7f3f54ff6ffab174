pub mod SearchLaws
pub mod KeysLaws
pub mod Room
