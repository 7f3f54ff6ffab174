pub mod Observation
pub mod Plain
pub mod Loans
pub mod Run
pub mod Due
