pub mod RuleLaws
pub mod PlaceLaws
pub mod FirstLine
pub mod PlainLaws
pub mod StatusLaws
pub mod SignedLaws
pub mod WholeLaws
pub mod ContentLaws
