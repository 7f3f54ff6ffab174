pub mod Sha2
pub mod Sha512
pub mod Parts
