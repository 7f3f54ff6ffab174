pub mod SameLaws
pub mod LineLaws
