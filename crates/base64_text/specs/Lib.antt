pub mod Base64
pub mod Places
pub mod Groups
pub mod Decoding
