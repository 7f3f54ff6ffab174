pub mod ByteLaws
pub mod DigitLaws
pub mod BlockLaws
pub mod LastLaws
pub mod DigestLaws
pub mod PartLaws
