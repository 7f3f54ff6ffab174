pub mod ExportedCalls
pub mod OnBytes
pub mod Within
pub mod Examples
