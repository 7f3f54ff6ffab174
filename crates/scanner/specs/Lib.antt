pub mod Scanner
pub mod Form
