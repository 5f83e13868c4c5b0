pub mod Near
pub mod Cells
pub mod Rows
pub mod SignLaw
