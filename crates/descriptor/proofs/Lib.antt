pub mod Cells
pub mod Checks
pub mod Answers
pub mod Flat
pub mod Rules
pub mod Nothing
