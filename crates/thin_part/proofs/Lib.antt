pub mod Parts
pub mod Arranges
