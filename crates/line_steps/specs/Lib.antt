pub mod FirstLine
pub mod NextLine
