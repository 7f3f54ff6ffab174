pub mod OtherHeads
pub mod Older
pub mod Unasked
pub mod OtherLimits
pub mod Unchecked
pub mod WholeOnly
pub mod Kept
