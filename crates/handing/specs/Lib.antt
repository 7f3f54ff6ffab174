pub mod Handing
pub mod Released
