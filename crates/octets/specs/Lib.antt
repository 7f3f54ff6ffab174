pub mod Octets
pub mod Choice
pub mod Viable
