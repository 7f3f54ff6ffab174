pub mod Class
pub mod Span
