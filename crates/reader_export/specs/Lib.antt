pub mod Export
pub mod Loan
