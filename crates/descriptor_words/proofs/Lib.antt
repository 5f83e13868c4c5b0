pub mod Cells
pub mod Filled
