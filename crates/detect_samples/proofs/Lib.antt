pub mod Spans
pub mod Rows
