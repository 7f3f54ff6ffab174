pub mod Parts
pub mod Injection
pub mod BlockSigs
pub mod HeadSig
