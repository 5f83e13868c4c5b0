pub mod Adds
pub mod Cells
