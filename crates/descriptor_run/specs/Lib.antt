pub mod Cells
pub mod Run
pub mod Place
pub mod Rules
