pub mod RunLaws
pub mod SpanLaws
pub mod ScanLaws
