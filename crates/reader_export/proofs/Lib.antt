pub mod ExportLaws
pub mod LoanLaws
