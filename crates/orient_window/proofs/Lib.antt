pub mod Cells
pub mod Radius
pub mod Spans
pub mod Round
pub mod Rows
pub mod Rules
